-- A prefix of a text was sent over a link, and then some more of its rest.
use Rattle.std.proofs.Common.{◌≡◌, ℕ, List, ◌++◌, Option, None, Some, take, drop, append_assoc, option_map, refl}
use Rattle.std.proofs.lemmas.List.{take-append-drop}
use Rattle.sv_out.specs.Exchanges.{sent_more}
use Rattle.sv_out.specs.declared.connection.Exchange.{Exchange}

twice : (front more : List ℕ) (told : Option Exchange)
    → option_map (sent_more more) (option_map (sent_more front) told) ≡ option_map (sent_more (front ++ more)) told
twice front more None = refl
twice front more (Some exchange) = rw (append_assoc exchange.sent front more) refl

pub sent_next : (a b c : Option Exchange) (text rest : List ℕ) (n : ℕ)
    → (front : List ℕ) × (text ≡ front ++ rest) × (b ≡ option_map (sent_more front) a) → c ≡ option_map (sent_more (take n rest)) b
    → (front : List ℕ) × (text ≡ front ++ drop n rest) × (c ≡ option_map (sent_more front) a)
sent_next a b c text rest n sent more =
    (sent.0 ++ take n rest, rw (append_assoc, take-append-drop n rest) sent.1, rw (more, sent.2, twice sent.0 (take n rest) a) refl)
