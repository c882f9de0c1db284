-- What is read of a call and of a reply around their values.
use Rattle.std.specs.Prelude.{ℕ, suc, ◌≡◌, List, [], ◌∷◌, length, Bool, true, false, Result, Ok}
use Rattle.std.specs.Prelude.{Err, Option, Some, None}
use Rattle.sv_xmlcall.specs.Trees.{Reply}
use Rattle.sv_xmlcall.specs.Atoms.{skip_white, tag_behind, close_at, closing_at}
use Rattle.sv_xmlcall.specs.Reading.{◌>>=◌, method_at, prolog_from}
use Rattle.sv_xmlcall.specs.Spelled.{Spelled}
use Rattle.sv_xmlcall.specs.Machine.{Verdict, Read, the_limits, unless_many}
use Rattle.sv_xmlcall.specs.Running.{Halts}
use Rattle.sv_letters.specs.declared.letters.Awaits.TheVariants.{Character}
use Rattle.sv_xmlcall.specs.declared.stop.Stop.{Stop}
use Rattle.sv_xmlcall.specs.declared.tag.Tag.{Tag}
use Rattle.sv_xmlcall.specs.declared.tag.Tag.TheVariants as tag

-- the declaration, from after its `<?xml`, and this opening tag of the outermost element
abbrev pub declared_at : Tag → List ℕ → Result (List ℕ) ℕ
declared_at begin bs = do
  rest ← prolog_from false Character bs
  r ← tag_behind (begin ∷ []) rest
  Ok r.1

-- after the first tag of a text, a declaration's or this opening tag: what follows the opening tag
abbrev pub document_of : Tag → Tag → List ℕ → Result (List ℕ) ℕ
document_of begin tag.Declaration bs = declared_at begin bs
document_of begin t bs = Ok bs

-- what stands before the outermost element, and its opening tag
unfoldable pub document_at : Tag → List ℕ → Result (List ℕ) ℕ
document_at begin bs = do
  r ← tag_behind (tag.Declaration ∷ begin ∷ []) bs
  document_of begin r.0 r.1

-- a call up to its method's name
unfoldable pub head_at : List ℕ → Result (List ℕ × List ℕ) ℕ
head_at bs = do
  rest ← document_at tag.MethodCall bs
  r ← tag_behind (tag.MethodName ∷ []) rest
  method_at r.1

-- no further param comes, and this follows the call
abbrev pub ended_by : Result (List ℕ) ℕ → Result (Bool × List ℕ) ℕ
ended_by r = r >>= (λ rest. Ok (false, rest))

-- what comes after this tag, the first after the method's name
abbrev pub begun_of : Tag → List ℕ → Result (Bool × List ℕ) ℕ
begun_of tag.Params bs = Ok (true, bs)
begun_of tag.NoParams bs = ended_by (closing_at (tag.EndMethodCall ∷ []) bs)
begun_of t bs = ended_by (close_at bs)

-- after the name of a call: whether params may come
unfoldable pub begun_at : List ℕ → Result (Bool × List ℕ) ℕ
begun_at bs = do
  r ← tag_behind (tag.Params ∷ tag.NoParams ∷ tag.EndMethodCall ∷ []) bs
  begun_of r.0 r.1

-- what comes after this tag, which opens a param or closes all of them
abbrev pub param_of : Tag → List ℕ → Result (Bool × List ℕ) ℕ
param_of tag.Param bs = Ok (true, bs)
param_of t bs = close_at bs >>= (λ rest. ended_by (closing_at (tag.EndMethodCall ∷ []) rest))

-- whether one more param comes
unfoldable pub param_at : List ℕ → Result (Bool × List ℕ) ℕ
param_at bs = do
  r ← tag_behind (tag.Param ∷ tag.EndParams ∷ []) bs
  param_of r.0 r.1

-- what comes after this tag, the first inside `<methodResponse>`
abbrev pub answer_of : Tag → List ℕ → Result (Bool × List ℕ) ℕ
answer_of tag.Params bs = do
  r ← tag_behind (tag.Param ∷ []) bs
  Ok (true, r.1)
answer_of t bs = Ok (false, bs)

-- a reply up to its value: whether it is that of a method, or a fault
unfoldable pub answer_at : List ℕ → Result (Bool × List ℕ) ℕ
answer_at bs = do
  rest ← document_at tag.MethodResponse bs
  r ← tag_behind (tag.Params ∷ tag.Fault ∷ []) rest
  answer_of r.0 r.1

-- after the value of a method's reply
unfoldable pub param_end_at : List ℕ → Result (List ℕ) ℕ
param_end_at bs = do
  one ← closing_at (tag.EndParam ∷ []) bs
  two ← closing_at (tag.EndParams ∷ []) one
  closing_at (tag.EndMethodResponse ∷ []) two

-- after the value of a fault
unfoldable pub fault_end_at : List ℕ → Result (List ℕ) ℕ
fault_end_at bs = do
  one ← closing_at (tag.EndFault ∷ []) bs
  closing_at (tag.EndMethodResponse ∷ []) one

-- the text comes to what is read, or to what the code stops at, when so many values are opened
abbrev pub Comes : {X : Type 0} → Verdict → ℕ → (X → Spelled) → Result X Stop → Type 0
Comes verdict count shown (Ok x) = verdict ≡ unless_many the_limits count (Read (shown x))
Comes verdict count shown (Err stop) = Halts stop count verdict

-- the end of the bytes
abbrev pub nothing_at : List ℕ → Result (Unit {0}) ℕ
nothing_at [] = Ok tt
nothing_at (b ∷ bs) = Err (suc (length bs))

-- the end of a text, but for white space
abbrev pub end_at : List ℕ → Result (Unit {0}) ℕ
end_at bs = nothing_at (skip_white bs)

-- the end of a method's reply, from after its value
abbrev pub value_end_at : List ℕ → Result (Unit {0}) ℕ
value_end_at bs = param_end_at bs >>= (λ rest. end_at rest)

-- the end of a fault, from after its value; none where that is not the value of a fault
abbrev pub faulty_at : Option Reply → List ℕ → Result Reply ℕ
faulty_at (Some reply) bs = fault_end_at bs >>= (λ rest. end_at rest >>= (λ u. Ok reply))
faulty_at None bs = Err (length bs)
