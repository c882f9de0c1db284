-- One piece more is pumped.
use Rattle.std.proofs.Common.{◌≡◌, ◌++◌, ◌∷◌, ◌∙◌, ℕ, List, [], Option, ap, append_assoc, append-nil, map, subst, sym}
use Rattle.std.proofs.lemmas.List.{map-append}
use Rattle.std.proofs.KnownBytes.{Consumes-trans}
use Rattle.std.proofs.lemmas.List.Folds.{concat-append}
use Rattle.std.specs.Io.KnownBytes.{Consumes}
use Rattle.std.specs.List.{concat}
use Rattle.sv_base.specs.declared.ids.Run.{Run}
use Rattle.sv_base.specs.declared.state.Stream.{Stream}
use Rattle.sv_jobs.specs.Pumping.{Pumping}
use Rattle.sv_jobs.specs.declared.notes.Note.{Note}
use Rattle.sv_jobs.specs.declared.notes.Note.TheVariants.{Out}

concat_more : (pieces : List (List ℕ)) (piece : List ℕ) → concat (pieces ++ piece ∷ []) ≡ concat pieces ++ piece
concat_more pieces piece = concat-append pieces (piece ∷ []) ∙ ap (λ l. concat pieces ++ l) (append-nil piece)

pub pumped_more : (run : Run) (stream : Stream) (a b c : Option (List ℕ)) (k l m : List Note) (piece : List ℕ)
    → Pumping run stream a b k l → Consumes b c piece → m ≡ l ++ Out run stream piece ∷ [] → Pumping run stream a c k m
pumped_more run stream a b c k l m piece so took posts = record {
  pieces = so.pieces ++ piece ∷ [];
  bytes = subst (Consumes a c) (sym (concat_more so.pieces piece)) (Consumes-trans a b c (concat so.pieces) piece so.bytes took);
  posted = posts ∙ ap (λ n. n ++ Out run stream piece ∷ []) so.posted ∙ append_assoc k (map (Out run stream) so.pieces) (Out run stream piece ∷ [])
      ∙ ap (λ n. k ++ n) (sym (map-append (Out run stream) so.pieces (piece ∷ [])));
}
