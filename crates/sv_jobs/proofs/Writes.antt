-- One text more is written to a standard input.
use Rattle.std.proofs.Common.{◌≡◌, ◌++◌, ◌∷◌, ◌∙◌, ℕ, List, [], Option, ap, append_assoc, append-nil, length, map, replicate, subst, sym}
use Rattle.std.proofs.KnownBytes.{Appends-trans}
use Rattle.std.proofs.lemmas.List.{length-append, map-append, replicate_more}
use Rattle.std.proofs.lemmas.List.Folds.{concat-append}
use Rattle.std.specs.Io.KnownBytes.{Appends}
use Rattle.std.specs.List.{concat}
use Rattle.sv_base.specs.declared.ids.Run.{Run}
use Rattle.sv_jobs.specs.StdinWriting.{joined, writes}
use Rattle.sv_jobs.specs.declared.notes.Note.{Note}
use Rattle.sv_jobs.specs.declared.notes.Note.TheVariants.{Wrote}
use Rattle.sv_jobs.specs.declared.notes.StdinWord.{StdinWord}
use Rattle.sv_jobs.specs.declared.notes.StdinWord.TheVariants.{Write}

-- the words that were taken so far were written whole
pub record WroteSoFar (run : Run) (written written_after : Option (List ℕ)) (taken taken_after : List (ℕ × StdinWord)) (posted posted_after : List Note) : Type 0 where
  pub texts : List (ℕ × List ℕ)
  pub words : taken_after ≡ taken ++ writes texts
  pub bytes : Appends written written_after (joined texts)
  pub told : posted_after ≡ posted ++ replicate (length texts) (Wrote run)

joined_more : (texts : List (ℕ × List ℕ)) (seat : ℕ) (text : List ℕ) → joined (texts ++ (seat, text) ∷ []) ≡ joined texts ++ text
joined_more texts seat text =
    ap concat (map-append (λ (t : ℕ × List ℕ). t.1) texts ((seat, text) ∷ []))
    ∙ concat-append (map (λ (t : ℕ × List ℕ). t.1) texts) (text ∷ [])
    ∙ ap (λ l. joined texts ++ l) (append-nil text)

words_more : (texts : List (ℕ × List ℕ)) (seat : ℕ) (text : List ℕ) → writes (texts ++ (seat, text) ∷ []) ≡ writes texts ++ (seat, Write text) ∷ []
words_more texts seat text = map-append (λ (t : ℕ × List ℕ). (t.0, Write t.1)) texts ((seat, text) ∷ [])

notes_more : (run : Run) (texts : List (ℕ × List ℕ)) (seat : ℕ) (text : List ℕ)
    → replicate (length (texts ++ (seat, text) ∷ [])) (Wrote run) ≡ replicate (length texts) (Wrote run) ++ Wrote run ∷ []
notes_more run texts seat text =
    ap (λ n. replicate n (Wrote run)) (length-append texts ((seat, text) ∷ [])) ∙ sym (replicate_more (length texts) (Wrote run))

pub wrote_more : (run : Run) (a b c : Option (List ℕ)) (t u v : List (ℕ × StdinWord)) (k l m : List Note) (seat : ℕ) (text sent : List ℕ)
    → WroteSoFar run a b t u k l → v ≡ u ++ (seat, Write text) ∷ [] → sent ≡ text → Appends b c sent → m ≡ l ++ Wrote run ∷ [] → WroteSoFar run a c t v k m
wrote_more run a b c t u v k l m seat text sent so took is wrote posts = record {
  texts = so.texts ++ (seat, text) ∷ [];
  words = took ∙ ap (λ w. w ++ (seat, Write text) ∷ []) so.words ∙ append_assoc t (writes so.texts) ((seat, Write text) ∷ [])
      ∙ ap (λ w. t ++ w) (sym (words_more so.texts seat text));
  bytes = subst (Appends a c) (sym (joined_more so.texts seat text)) (Appends-trans a b c (joined so.texts) text so.bytes (subst (Appends b c) is wrote));
  told = posts ∙ ap (λ n. n ++ Wrote run ∷ []) so.told ∙ append_assoc k (replicate (length so.texts) (Wrote run)) (Wrote run ∷ [])
      ∙ ap (λ n. k ++ n) (sym (notes_more run so.texts seat text));
}
