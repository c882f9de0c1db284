-- Credentials: the base64 of a username, a colon and a password.
use Rattle.std.proofs.Common.{◌≡◌, ◌++◌, ◌∷◌, [], ◌==◌, ℕ, List, Bool, true, false, Option, None, Some, Result, Ok, Err, length, take, drop, refl, sym, ap, ◌∙◌, codes, if◌then◌else◌}
use Rattle.std.specs.Str.{bytes_eq}
use Rattle.std.proofs.lemmas.Bool.{and_parts}
use Rattle.std.proofs.lemmas.List.{take-append-drop}
use Rattle.std.proofs.lemmas.Slice.Eq.{bytes_eq-Decides}
use Rattle.std.proofs.Math.Seq.{drop-append_seam, take-append_seam}
use Rattle.base64.specs.GeneralPurpose.{decode_of, encode_of, IsBytes}
use Rattle.base64.specs.Engines.{standard}
use Rattle.base64.specs.declared.decode.DecodeError.{DecodeError}
use Rattle.base64.proofs.EngineFacts.{decode_of_strict, decode_of-encode_of}
use Rattle.sv_base.specs.declared.config.Password.{Password}
use Rattle.sv_http.proofs.Heads.{eq_true}
use Rattle.sv_http.specs.Authorization.{IsCredentials, after_front, is_password, lets_in, opens_behind, opens_decoded, opens_encoded}
use Rattle.sv_http.specs.declared.guard.Guard.{Guard}

-- what follows a prefix
front_is : (front bytes rest : List ℕ) → after_front front bytes ≡ Some rest → bytes ≡ front ++ rest
front_is front bytes rest found = by_same (bytes_eq (take (length front) bytes) front) refl found
  where
    by_same : (same : Bool) → bytes_eq (take (length front) bytes) front ≡ same
        → (if same then Some (drop (length front) bytes) else None) ≡ Some rest → bytes ≡ front ++ rest
    by_same true same found =
        sym (take-append-drop (length front) bytes)
        ∙ ap (λ begin. begin ++ drop (length front) bytes) ((bytes_eq-Decides (take (length front) bytes) front).0 same)
        ∙ ap (λ end. front ++ end) (let end : drop (length front) bytes ≡ rest = cc in end)
    by_same false same found = absurd cc

front_found : (front rest : List ℕ) → after_front front (front ++ rest) ≡ Some rest
front_found front rest =
    ap (λ (same : Bool). if same then Some (drop (length front) (front ++ rest)) else None)
    ((bytes_eq-Decides (take (length front) (front ++ rest)) front).1 (take-append_seam front rest))
    ∙ ap Some (drop-append_seam front rest)

-- a field that lets in has a text after its prefix
pub is_basic : (guard : Guard) (value : List ℕ) → lets_in guard value ≡ true → (text : List ℕ) × (value ≡ codes "Basic " ++ text)
is_basic guard value opened = by_text (after_front (codes "Basic ") value) refl opened
  where
    by_text : (text : Option (List ℕ)) → after_front (codes "Basic ") value ≡ text → opens_encoded guard text ≡ true
        → (text : List ℕ) × (value ≡ codes "Basic " ++ text)
    by_text None is opened = absurd cc
    by_text (Some text) is opened = (text, front_is (codes "Basic ") value text is)

colon_is : (asked : Password) (behind : Option (List ℕ)) → opens_behind asked behind ≡ true
    → (given : List ℕ) × (behind ≡ Some (58 ∷ given)) × (is_password asked given ≡ true)
colon_is asked None opened = absurd cc
colon_is asked (Some []) opened = absurd cc
colon_is asked (Some (byte ∷ given)) opened =
    let parts = and_parts (byte == 58) (is_password asked given) opened in
    (given, ap (λ b. Some (b ∷ given)) (eq_true byte 58 parts.0), parts.1)

pub are_credentials : (guard : Guard) (text : List ℕ) → IsBytes text → lets_in guard (codes "Basic " ++ text) ≡ true → IsCredentials guard text
are_credentials guard text bytes opened =
    by_decoded (decode_of standard text) refl (sym (ap (opens_encoded guard) (front_found (codes "Basic ") text)) ∙ opened)
  where
    by_decoded : (decoded : Result (List ℕ) DecodeError) → decode_of standard text ≡ decoded → opens_decoded guard decoded ≡ true → IsCredentials guard text
    by_decoded (Err error) is opened = absurd cc
    by_decoded (Ok whole) is opened =
        let behind = colon_is guard.password (after_front guard.username whole) opened in
        let joined : whole ≡ guard.username ++ 58 ∷ behind.0 = front_is guard.username whole (58 ∷ behind.0) behind.1 in
        (behind.0, decode_of_strict standard text whole (refl, refl) bytes is ∙ ap (encode_of standard) joined, behind.2)

pub let_in : (guard : Guard) (given : List ℕ) → IsBytes (guard.username ++ 58 ∷ given) → is_password guard.password given ≡ true
    → lets_in guard (codes "Basic " ++ encode_of standard (guard.username ++ 58 ∷ given)) ≡ true
let_in guard given bytes is =
    let whole = guard.username ++ 58 ∷ given in
    ap (opens_encoded guard) (front_found (codes "Basic ") (encode_of standard whole))
    ∙ ap (opens_decoded guard) (decode_of-encode_of standard whole refl bytes)
    ∙ ap (opens_behind guard.password) (front_found guard.username (58 ∷ given)) ∙ is
