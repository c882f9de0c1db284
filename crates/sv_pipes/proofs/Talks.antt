-- A talk and its cut, when one thing more comes.
use Rattle.std.proofs.Common.{◌≡◌, ℕ, List, [], ◌∷◌, ◌++◌, refl, ap, sym, ◌∙◌, subst, inl, append_assoc, append-nil}
use Rattle.std.proofs.lemmas.List.{map-append}
use Rattle.std.proofs.lemmas.Grind.{flat_map-append}
use Rattle.sv_pipes.specs.Talk.{Mark, Phrase, said, spelled, talk_of, told_by, tokens_of, Leads, IsRound, IsBegun, IsOutside, GoesOn, IsLost}
use Rattle.sv_pipes.specs.Talk.Mark.{Byte}
use Rattle.sv_pipes.specs.declared.tokens.TalkState.{TalkState}
use Rattle.sv_pipes.specs.declared.tokens.TalkState.TheVariants as state
use Rattle.sv_pipes.specs.declared.tokens.Token.{Token}
use Rattle.sv_pipes.specs.declared.tokens.Token.TheVariants as token

pub round_more : (from : TalkState) (phrases : List Phrase) (at : TalkState) (phrase : Phrase) (to : TalkState)
    → IsRound from phrases at → Leads at phrase to → IsRound from (phrases ++ phrase ∷ []) to
round_more from [] at phrase to same leads = (to, subst (λ (s : TalkState). Leads s phrase to) (sym same) leads, refl)
round_more from (first ∷ phrases) at phrase to round leads = (round.0, round.1, round_more round.0 phrases at phrase to round.2 leads)

said_more : (rest : List ℕ) (byte : ℕ) → said (rest ++ byte ∷ []) ≡ said rest ++ Byte byte ∷ []
said_more rest byte = map-append Byte rest (byte ∷ [])

-- one byte more of what is said next
pub byte_goes_on : (talk : List Mark) (tokens : List Token) (to : TalkState) (rest : List ℕ) (byte : ℕ) → GoesOn talk tokens to rest
    → IsBegun to (rest ++ byte ∷ []) → GoesOn (talk ++ Byte byte ∷ []) tokens to (rest ++ byte ∷ [])
byte_goes_on talk tokens to rest byte was begun = record {
  phrases = was.phrases;
  cut = ap (λ all. all ++ Byte byte ∷ []) was.cut ∙ append_assoc (talk_of was.phrases) (said rest) (Byte byte ∷ [])
      ∙ ap (λ back. talk_of was.phrases ++ back) (sym (said_more rest byte));
  round = was.round;
  begun = begun;
  tokens_are = was.tokens_are;
}

-- the rest ends a part
pub part_ends : (talk : List Mark) (earlier tokens : List Token) (at to : TalkState) (rest : List ℕ) (mark : Mark) (phrase : Phrase)
    → GoesOn talk (earlier ++ tokens) at rest → Leads at phrase to → spelled phrase ≡ said rest ++ mark ∷ []
    → GoesOn (talk ++ mark ∷ []) (earlier ++ (tokens ++ told_by phrase)) to []
part_ends talk earlier tokens at to rest mark phrase was leads spells = record {
  phrases = was.phrases ++ phrase ∷ [];
  cut = ap (λ all. all ++ mark ∷ []) was.cut ∙ append_assoc (talk_of was.phrases) (said rest) (mark ∷ [])
      ∙ ap (λ back. talk_of was.phrases ++ back) (sym spells)
      ∙ ap (λ back. talk_of was.phrases ++ back) (sym (append-nil (spelled phrase)))
      ∙ sym (flat_map-append spelled was.phrases (phrase ∷ [])) ∙ sym (append-nil (talk_of (was.phrases ++ phrase ∷ [])));
  round = round_more state.Acknowledged was.phrases at phrase to was.round leads;
  begun = inl refl;
  tokens_are = sym (append_assoc earlier tokens (told_by phrase)) ∙ ap (λ all. all ++ told_by phrase) was.tokens_are
      ∙ ap (λ back. tokens_of was.phrases ++ back) (sym (append-nil (told_by phrase)))
      ∙ sym (flat_map-append told_by was.phrases (phrase ∷ []));
}

-- a byte that can't go on
pub byte_loses : (talk : List Mark) (earlier tokens : List Token) (to : TalkState) (rest : List ℕ) (byte : ℕ)
    → GoesOn talk (earlier ++ tokens) to rest → IsOutside to rest byte
    → IsLost (talk ++ Byte byte ∷ []) (earlier ++ (tokens ++ token.Wrong ∷ []))
byte_loses talk earlier tokens to rest byte was outside = record {
  phrases = was.phrases;
  to = to;
  rest = rest;
  byte = byte;
  behind = [];
  cut = ap (λ all. all ++ Byte byte ∷ []) was.cut;
  round = was.round;
  begun = was.begun;
  outside = outside;
  tokens_are = sym (append_assoc earlier tokens (token.Wrong ∷ [])) ∙ ap (λ all. all ++ token.Wrong ∷ []) was.tokens_are;
}

pub stays_lost : (talk : List Mark) (tokens : List Token) (mark : Mark) → IsLost talk tokens → IsLost (talk ++ mark ∷ []) tokens
stays_lost talk tokens mark was = record {
  phrases = was.phrases;
  to = was.to;
  rest = was.rest;
  byte = was.byte;
  behind = was.behind ++ mark ∷ [];
  cut = ap (λ all. all ++ mark ∷ []) was.cut
      ∙ append_assoc (talk_of was.phrases ++ said was.rest) (Byte was.byte ∷ was.behind) (mark ∷ []);
  round = was.round;
  begun = was.begun;
  outside = was.outside;
  tokens_are = was.tokens_are;
}
