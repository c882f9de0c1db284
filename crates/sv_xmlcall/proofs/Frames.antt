-- The frames of a stack.
use Rattle.std.proofs.Common.{◌≡◌, ℕ, ◌+◌, ◌≤◌, ◌<◌, Bool, List, [], ◌∷◌, ◌++◌, length, refl, ap, arith}
use Rattle.sv_xmlcall.specs.Trees.{Tree, tree, member, trees_of, view, trees_view, members_view}
use Rattle.sv_xmlcall.specs.Spelled.{snoc, snoc_member}
use Rattle.std.proofs.Common.{Result, Ok, Err}
use Rattle.std.proofs.lemmas.Bool.{le-leb, lt-leb}
use Rattle.sv_xmlcall.specs.Machine.{Frame, State, Deep, counted, the_limits}
use Rattle.sv_xmlcall.specs.Turns.{Settles, opened_of, opening_of}
use Rattle.sv_xmlcall.specs.declared.nested.Settled.{Settled}
use Rattle.sv_xmlcall.specs.declared.stop.Stop.{Stop}
use Rattle.sv_xmlcall.specs.declared.stop.Stop.TheVariants as stop
use Rattle.sv_xmlcall.specs.Stages.{held_view, frames_on}
use Rattle.sv_xmlcall.specs.declared.nested.Held.{Held}
use Rattle.sv_xmlcall.specs.declared.value.Value.{Value}

pub frames_more : (below : List Frame) (hs : List Held) (h : Held) → frames_on below (hs ++ h ∷ []) ≡ held_view h ∷ frames_on below hs
frames_more below [] h = refl
frames_more below (x ∷ hs) h = frames_more (held_view x ∷ below) hs h

pub frames_length : (below : List Frame) (hs : List Held) → length (frames_on below hs) ≡ length hs + length below
frames_length below [] = omega arith
frames_length below (x ∷ hs) = let e = frames_length (held_view x ∷ below) hs in omega arith

trees_more : (ts : List Tree) (t : Tree) → trees_of (ts ++ t ∷ []) ≡ snoc (trees_of ts) t
trees_more [] t = refl
trees_more (x ∷ ts) t = ap (tree x) (trees_more ts t)

pub trees_view_more : (vs : List Value) (v : Value) → trees_view (vs ++ v ∷ []) ≡ snoc (trees_view vs) (view v)
trees_view_more [] v = refl
trees_view_more (x ∷ vs) v = ap (tree (view x)) (trees_view_more vs v)

pub members_view_more : (ms : List (List ℕ × Value)) (name : List ℕ) (v : Value) → members_view (ms ++ (name, v) ∷ []) ≡ snoc_member (members_view ms) name (view v)
members_view_more [] name v = refl
members_view_more (x ∷ ms) name v = ap (member x.0 (view x.1)) (members_view_more ms name v)

-- a value that is opened inside fewer than 32 others
pub begin_ok : (empty : Bool) (hs : List Held) (n : ℕ) (behind : Frame → Settled → State) (r : Result Settled Stop) → length hs < 32
    → Settles (λ frame. opened_of empty (frames_on (frame ∷ []) hs) (counted the_limits n)) behind r
    → Settles (λ frame. opening_of empty (frames_on (frame ∷ []) hs) n) behind r
begin_ok empty hs n behind (Ok s) l h = λ frame. let e = frames_length (frame ∷ []) hs in rw (le-leb (length (frames_on (frame ∷ []) hs)) 32 (omega arith)) (h frame)
begin_ok empty hs n behind (Err (stop.At left)) l h = h
begin_ok empty hs n behind (Err stop.TooDeep) l h = λ frame. let e = frames_length (frame ∷ []) hs in rw (le-leb (length (frames_on (frame ∷ []) hs)) 32 (omega arith)) (h frame)
begin_ok empty hs n behind (Err stop.OutOfMemory) l h = tt

pub begin_deep : (empty : Bool) (hs : List Held) (n : ℕ) → 32 ≤ length hs → (frame : Frame) → opening_of empty (frames_on (frame ∷ []) hs) n ≡ Deep
begin_deep empty hs n l frame = let e = frames_length (frame ∷ []) hs in rw (lt-leb (length (frames_on (frame ∷ []) hs)) 32 (omega arith)) refl
