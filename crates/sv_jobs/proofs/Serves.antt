-- One word more is worked off over a link.
use Rattle.std.proofs.Common.{◌≡◌, ◌++◌, ◌∷◌, ◌∙◌, ℕ, List, [], Option, None, Some, ap, append_assoc, append-nil, map, option_map, refl, sym}
use Rattle.std.proofs.lemmas.Grind.{flat_map-append}
use Rattle.std.proofs.lemmas.List.{map-append}
use Rattle.std.specs.List.{flat_map}
use Rattle.sv_base.specs.declared.ids.LinkId.{LinkId}
use Rattle.sv_jobs.specs.Pieces.{heard_as}
use Rattle.sv_jobs.specs.Serving.{Deed, Wrote, Heard, after_deeds, deeds_of, note_of, read_by, word_of, words_of, written_by}
use Rattle.sv_jobs.specs.declared.notes.LinkWord.{LinkWord}
use Rattle.sv_jobs.specs.declared.notes.LinkWord.TheVariants.{More, Send}
use Rattle.sv_jobs.specs.declared.notes.Note.{Note}
use Rattle.sv_jobs.specs.declared.notes.Note.TheVariants as note
use Rattle.sv_jobs.specs.declared.reading.ReadResult.TheVariants as reading
use Rattle.sv_out.specs.Exchanges.{sent_more}
use Rattle.sv_out.specs.declared.connection.Exchange.{Exchange}

-- the words that were taken so far were worked off
pub record ServedSoFar (link : LinkId) (told told_after : Option Exchange) (taken taken_after : List (ℕ × LinkWord)) (posted posted_after : List Note) : Type 0 where
  pub deeds : List (ℕ × Deed)
  pub words : taken_after ≡ taken ++ words_of deeds
  pub bytes : told_after ≡ option_map (after_deeds (deeds_of deeds)) told
  pub notes : posted_after ≡ posted ++ map (note_of link) (deeds_of deeds)

deeds_more : (deeds : List (ℕ × Deed)) (seat : ℕ) (deed : Deed) → deeds_of (deeds ++ (seat, deed) ∷ []) ≡ deeds_of deeds ++ deed ∷ []
deeds_more deeds seat deed = map-append (λ (d : ℕ × Deed). d.1) deeds ((seat, deed) ∷ [])

words_more : (deeds : List (ℕ × Deed)) (seat : ℕ) (deed : Deed) → words_of (deeds ++ (seat, deed) ∷ []) ≡ words_of deeds ++ (seat, word_of deed) ∷ []
words_more deeds seat deed = map-append (λ (d : ℕ × Deed). (d.0, word_of d.1)) deeds ((seat, deed) ∷ [])

-- deeds and one more
twice : (deeds : List Deed) (deed : Deed) (told : Option Exchange)
    → option_map (after_deeds (deed ∷ [])) (option_map (after_deeds deeds) told) ≡ option_map (after_deeds (deeds ++ deed ∷ [])) told
twice deeds deed None = refl
twice deeds deed (Some exchange) =
    rw (
      flat_map-append written_by deeds (deed ∷ []),
      flat_map-append read_by deeds (deed ∷ []),
      append_assoc exchange.sent (flat_map written_by deeds) (flat_map written_by (deed ∷ [])),
      append_assoc exchange.heard (flat_map read_by deeds) (flat_map read_by (deed ∷ [])),
    ) refl

served_more : (link : LinkId) (a b c : Option Exchange) (t u v : List (ℕ × LinkWord)) (k l m : List Note) (seat : ℕ) (deed : Deed)
    → ServedSoFar link a b t u k l → v ≡ u ++ (seat, word_of deed) ∷ [] → c ≡ option_map (after_deeds (deed ∷ [])) b → m ≡ l ++ note_of link deed ∷ []
    → ServedSoFar link a c t v k m
served_more link a b c t u v k l m seat deed so took went posts = record {
  deeds = so.deeds ++ (seat, deed) ∷ [];
  words = took ∙ ap (λ w. w ++ (seat, word_of deed) ∷ []) so.words ∙ append_assoc t (words_of so.deeds) ((seat, word_of deed) ∷ [])
      ∙ ap (λ w. t ++ w) (sym (words_more so.deeds seat deed));
  bytes = went ∙ ap (λ o. option_map (after_deeds (deed ∷ [])) o) so.bytes ∙ twice (deeds_of so.deeds) deed a
      ∙ ap (λ ds. option_map (after_deeds ds) a) (sym (deeds_more so.deeds seat deed));
  notes = posts ∙ ap (λ n. n ++ note_of link deed ∷ []) so.notes ∙ append_assoc k (map (note_of link) (deeds_of so.deeds)) (note_of link deed ∷ [])
      ∙ ap (λ n. k ++ n) (sym (map-append (note_of link) (deeds_of so.deeds) (deed ∷ [])))
      ∙ ap (λ ds. k ++ map (note_of link) ds) (sym (deeds_more so.deeds seat deed));
}

one_sent : (bytes : List ℕ) (told : Option Exchange) → option_map (sent_more bytes) told ≡ option_map (after_deeds (Wrote bytes ∷ [])) told
one_sent bytes None = refl
one_sent bytes (Some exchange) = rw (append-nil bytes, append-nil exchange.heard) refl

one_heard : (piece : List ℕ) (told : Option Exchange)
    → option_map (heard_as (reading.Piece piece)) told ≡ option_map (after_deeds (Heard piece ∷ [])) told
one_heard piece None = refl
one_heard piece (Some exchange) = rw (append-nil piece, append-nil exchange.sent) refl

pub sent_one : (link : LinkId) (a b c : Option Exchange) (t u v : List (ℕ × LinkWord)) (k l m : List Note) (seat : ℕ) (bytes sent : List ℕ)
    → ServedSoFar link a b t u k l → v ≡ u ++ (seat, Send bytes) ∷ [] → sent ≡ bytes → c ≡ option_map (sent_more sent) b → m ≡ l ++ note.Sent link ∷ []
    → ServedSoFar link a c t v k m
sent_one link a b c t u v k l m seat bytes sent so took is went posts =
    served_more link a b c t u v k l m seat (Wrote bytes) so took (went ∙ ap (λ s. option_map (sent_more s) b) is ∙ one_sent bytes b) posts

pub heard_one : (link : LinkId) (a b c : Option Exchange) (t u v : List (ℕ × LinkWord)) (k l m : List Note) (seat : ℕ) (piece : List ℕ)
    → ServedSoFar link a b t u k l → v ≡ u ++ (seat, More) ∷ [] → c ≡ option_map (heard_as (reading.Piece piece)) b → m ≡ l ++ note.Piece link piece ∷ []
    → ServedSoFar link a c t v k m
heard_one link a b c t u v k l m seat piece so took went posts =
    served_more link a b c t u v k l m seat (Heard piece) so took (went ∙ one_heard piece b) posts
