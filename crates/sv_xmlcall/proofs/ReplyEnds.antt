-- What follows the value of a reply, or of a fault, is what the reading byte by byte goes on with.
use Rattle.std.proofs.Common.{◌≡◌, ℕ, true, false, ltb, List, [], ◌∷◌, length, Result, Ok, Err, Option, Some, None, inl, inr, refl, ap, ◌∙◌, leb, ◌<◌, arith}
use Rattle.std.proofs.lemmas.Bool.{cases_Bool, leb-false, lt-ltb}
use Rattle.sv_xmlcall.specs.Trees.{Tree, Reply, Returns}
use Rattle.sv_xmlcall.specs.Spelled.{AReply, fault_of}
use Rattle.sv_xmlcall.specs.Atoms.{closing_at}
use Rattle.sv_xmlcall.specs.Reading.{◌>>=◌}
use Rattle.sv_xmlcall.specs.Documents.{param_end_at, fault_end_at, end_at, value_end_at, faulty_at}
use Rattle.sv_xmlcall.specs.Machine.{the_limits, Frame, InFault, Verdict, Read, NotRead, AtReplyParamEnd, AtReplyParamsEnd, AtFaultEnd, AtResponseEnd, AtDone, At, Stuck, at, after_value, after_fault, run, unless_many, whole_fault}
use Rattle.sv_xmlcall.specs.Running.{Halts}
use Rattle.sv_xmlcall.specs.Outcome.{Stops}
use Rattle.sv_xmlcall.specs.declared.tag.Tag.TheVariants as tag
use Rattle.sv_xmlcall.specs.declared.stop.Stop.{Stop}
use Rattle.sv_xmlcall.specs.declared.stop.Stop.TheVariants as stop
use Rattle.sv_xmlcall.proofs.Runs.{run_closing, left_by}
use Rattle.sv_xmlcall.proofs.DocumentLaws.{on_done, run_done, halts_with}

abbrev pub on_end : Reply → ℕ → Result (List ℕ) ℕ → Verdict
on_end reply count (Ok rest) = run the_limits (at (At (AtDone (AReply reply))) [] count) rest
on_end reply count (Err left) = unless_many the_limits count (NotRead left)

response_end : (reply : Reply) (count : ℕ) (r : Result (List ℕ) ℕ) → left_by (AtResponseEnd reply) [] count r ≡ on_end reply count r
response_end reply count (Ok rest) = refl
response_end reply count (Err left) = refl

run_response_end : (reply : Reply) (count : ℕ) (bs : List ℕ) → run the_limits (at (At (AtResponseEnd reply)) [] count) bs ≡ on_end reply count (closing_at (tag.EndMethodResponse ∷ []) bs)
run_response_end reply count bs =
    run_closing (AtResponseEnd reply) tag.EndMethodResponse [] count bs (record { only = refl; goes_on = tt; shut = λ frames count. refl })
    ∙ response_end reply count (closing_at (tag.EndMethodResponse ∷ []) bs)

fault_left : (reply : Reply) (count : ℕ) (r : Result (List ℕ) ℕ) → left_by (AtFaultEnd reply) [] count r ≡ on_end reply count (r >>= (λ one. closing_at (tag.EndMethodResponse ∷ []) one))
fault_left reply count (Ok rest) = run_response_end reply count rest
fault_left reply count (Err left) = refl

pub run_fault_end : (reply : Reply) (count : ℕ) (bs : List ℕ) → run the_limits (at (At (AtFaultEnd reply)) [] count) bs ≡ on_end reply count (fault_end_at bs)
unfolding fault_end_at
run_fault_end reply count bs =
    run_closing (AtFaultEnd reply) tag.EndFault [] count bs (record { only = refl; goes_on = tt; shut = λ frames count. refl })
    ∙ fault_left reply count (closing_at (tag.EndFault ∷ []) bs)

two_left : (value : Tree) (count : ℕ) (r : Result (List ℕ) ℕ) → left_by (AtReplyParamsEnd value) [] count r ≡ on_end (Returns value) count (r >>= (λ two. closing_at (tag.EndMethodResponse ∷ []) two))
two_left value count (Ok rest) = run_response_end (Returns value) count rest
two_left value count (Err left) = refl

one_left : (value : Tree) (count : ℕ) (r : Result (List ℕ) ℕ)
    → left_by (AtReplyParamEnd value) [] count r ≡ on_end (Returns value) count (r >>= (λ one. closing_at (tag.EndParams ∷ []) one >>= (λ two. closing_at (tag.EndMethodResponse ∷ []) two)))
one_left value count (Ok rest) =
    run_closing (AtReplyParamsEnd value) tag.EndParams [] count rest (record { only = refl; goes_on = tt; shut = λ frames count. refl })
    ∙ two_left value count (closing_at (tag.EndParams ∷ []) rest)
one_left value count (Err left) = refl

pub run_param_end : (value : Tree) (count : ℕ) (bs : List ℕ) → run the_limits (at (At (AtReplyParamEnd value)) [] count) bs ≡ on_end (Returns value) count (param_end_at bs)
unfolding param_end_at
run_param_end value count bs =
    run_closing (AtReplyParamEnd value) tag.EndParam [] count bs (record { only = refl; goes_on = tt; shut = λ frames count. refl })
    ∙ one_left value count (closing_at (tag.EndParam ∷ []) bs)

pub run_stuck : (frames : List Frame) (count : ℕ) (bs : List ℕ) → run the_limits (at Stuck frames count) bs ≡ unless_many the_limits count (NotRead (length bs))
run_stuck frames count [] = refl
run_stuck frames count (b ∷ bs) = refl

abbrev on_value_end : Tree → ℕ → Result (Unit {0}) ℕ → Verdict
on_value_end value count (Ok u) = unless_many the_limits count (Read (AReply (Returns value)))
on_value_end value count (Err left) = unless_many the_limits count (NotRead left)

ended_value : (value : Tree) (count : ℕ) (r : Result (Unit {0}) ℕ) → on_done (AReply (Returns value)) count r ≡ on_value_end value count r
ended_value value count (Ok u) = refl
ended_value value count (Err left) = refl

value_ends : (value : Tree) (count : ℕ) (r : Result (List ℕ) ℕ) → on_end (Returns value) count r ≡ on_value_end value count (r >>= (λ rest. end_at rest))
value_ends value count (Ok rest) = run_done (AReply (Returns value)) count rest ∙ ended_value value count (end_at rest)
value_ends value count (Err left) = refl

run_value_end : (value : Tree) (count : ℕ) (bs : List ℕ) → run the_limits (at (At (AtReplyParamEnd value)) [] count) bs ≡ on_value_end value count (value_end_at bs)
run_value_end value count bs = run_param_end value count bs ∙ value_ends value count (param_end_at bs)

pub value_end_halts : (value : Tree) (count : ℕ) (bs : List ℕ) (one : Verdict) (stop : Stop) → one ≡ run the_limits (at (At (AtReplyParamEnd value)) [] count) bs
    → Stops stop (value_end_at bs) → Halts stop count one
value_end_halts value count bs one stop e s = halts_with (on_value_end value count) count one (value_end_at bs) stop (λ left. refl) (e ∙ run_value_end value count bs) s

pub value_end_goes : (value : Tree) (count : ℕ) (bs : List ℕ) (one : Verdict) → one ≡ run the_limits (at (At (AtReplyParamEnd value)) [] count) bs → value_end_at bs ≡ Ok tt
    → one ≡ unless_many the_limits count (Read (AReply (Returns value)))
value_end_goes value count bs one e s = e ∙ run_value_end value count bs ∙ ap (on_value_end value count) s

abbrev on_faulty : ℕ → Result Reply ℕ → Verdict
on_faulty count (Ok reply) = unless_many the_limits count (Read (AReply reply))
on_faulty count (Err left) = unless_many the_limits count (NotRead left)

fault_done : (reply : Reply) (count : ℕ) (r : Result (Unit {0}) ℕ) → on_done (AReply reply) count r ≡ on_faulty count (r >>= (λ u. Ok reply))
fault_done reply count (Ok u) = refl
fault_done reply count (Err left) = refl

fault_ends : (reply : Reply) (count : ℕ) (r : Result (List ℕ) ℕ) → on_end reply count r ≡ on_faulty count (r >>= (λ rest. end_at rest >>= (λ u. Ok reply)))
fault_ends reply count (Ok rest) = run_done (AReply reply) count rest ∙ fault_done reply count (end_at rest)
fault_ends reply count (Err left) = refl

run_faulty : (fault : Option Reply) (count : ℕ) (bs : List ℕ) → run the_limits (after_fault fault [] count) bs ≡ on_faulty count (faulty_at fault bs)
run_faulty (Some reply) count bs = run_fault_end reply count bs ∙ fault_ends reply count (fault_end_at bs)
run_faulty None count bs = run_stuck [] count bs

over_many : (count : ℕ) (verdict other : Verdict) → leb count 65536 ≡ false → unless_many the_limits count verdict ≡ unless_many the_limits count other
over_many count verdict other k = let m : 65536 < count = leb-false count 65536 k in let l : ltb 65536 count ≡ true = lt-ltb 65536 count (omega arith) in rw l refl

-- where not all is kept, too many values were opened
many_faulty : (count : ℕ) (bs : List ℕ) (r : Result Reply ℕ) → leb count 65536 ≡ false → run the_limits (after_fault None [] count) bs ≡ on_faulty count r
many_faulty count bs (Ok reply) k = run_stuck [] count bs ∙ over_many count (NotRead (length bs)) (Read (AReply reply)) k
many_faulty count bs (Err left) k = run_stuck [] count bs ∙ over_many count (NotRead (length bs)) (NotRead left) k

run_whole : (value : Tree) (count : ℕ) (bs : List ℕ) → run the_limits (after_fault (whole_fault the_limits count value) [] count) bs ≡ on_faulty count (faulty_at (fault_of value) bs)
run_whole value count bs = elim (cases_Bool (leb count 65536)) [
  | inl k ↦ rw k (run_faulty (fault_of value) count bs)
  | inr k ↦ rw k (many_faulty count bs (faulty_at (fault_of value) bs) k)
]

pub faulty_goes : {X : Type 0} (shown : X → Reply) (value : Tree) (count : ℕ) (bs : List ℕ) (one : Verdict) (x : X)
    → one ≡ run the_limits (after_value the_limits value (InFault ∷ []) count) bs → faulty_at (fault_of value) bs ≡ Ok (shown x) → one ≡ unless_many the_limits count (Read (AReply (shown x)))
faulty_goes shown value count bs one x e g = e ∙ run_whole value count bs ∙ ap (on_faulty count) g

pub faulty_halts : (value : Tree) (count : ℕ) (bs : List ℕ) (one : Verdict) (left : ℕ)
    → one ≡ run the_limits (after_value the_limits value (InFault ∷ []) count) bs → faulty_at (fault_of value) bs ≡ Err left → Halts (stop.At left) count one
faulty_halts value count bs one left e g =
    halts_with (on_faulty count) count one (faulty_at (fault_of value) bs) (stop.At left) (λ left. refl) (e ∙ run_whole value count bs) g
