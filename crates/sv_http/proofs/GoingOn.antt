-- What is kept goes on to be the rest of the stream after its asks.
use Rattle.std.proofs.Common.{◌≡◌, ℕ, List, [], ◌∷◌, ◌++◌, Option, None, Some, Bool, true, refl, sym, ap, ◌∙◌, subst, append_assoc}
use Rattle.std.specs.List.{list_all}
use Rattle.sv_http.proofs.Advances.{all_of, behind_dropped, dropped_more}
use Rattle.sv_http.proofs.AskReading.{first_is, first_none}
use Rattle.sv_http.proofs.Streams.{ask_once}
use Rattle.sv_http.specs.AsksOf.{first_ask}
use Rattle.sv_http.specs.ReaderPlaces.{GoesOn, IsOver}
use Rattle.sv_http.specs.RequestStream.{AreAsks, IsAsk, ends_line}
use Rattle.sv_http.specs.Undecided.{behind_asks, behind_first}
use Rattle.sv_http.specs.declared.ask.Ask.{Ask}
use Rattle.sv_http.specs.declared.ask.Ask.TheVariants.{Call, Bad}
use Rattle.sv_http.specs.declared.guard.Guard.{Guard}
use Rattle.sv_http.specs.declared.status.Refusal.{Refusal}

-- what follows the first ask

first_front : (guard : Guard) (text more : List ℕ) (ask : Ask) → IsAsk guard text ask → first_ask guard (text ++ more) ≡ Some (ask, more)
first_front guard text more ask is = by_read (first_ask guard (text ++ more)) refl
  where
    by_read : (read : Option (Ask × List ℕ)) → first_ask guard (text ++ more) ≡ read → read ≡ Some (ask, more)
    by_read None none = absurd (first_none guard (text ++ more) none text more ask refl is)
    by_read (Some (found, rest)) read =
        let front = first_is guard (text ++ more) (found, rest) read in
        let same = ask_once guard front.0 text rest more found ask front.2 is (sym front.1) in
        ap (λ (one : Ask). Some (one, rest)) same.0 ∙ ap (λ (left : List ℕ). Some (ask, left)) same.1

behind_more : (guard : Guard) (asks : List Ask) (ask : Ask) (stream : List ℕ)
    → behind_asks guard (asks ++ ask ∷ []) stream ≡ behind_first (first_ask guard (behind_asks guard asks stream))
behind_more guard [] ask stream = refl
behind_more guard (other ∷ asks) ask stream = behind_more guard asks ask (behind_first (first_ask guard stream))

-- what is kept is an ask: what comes then stands after it
behind_asked : (guard : Guard) (kept stream : List ℕ) (asks : List Ask) (ask : Ask) → GoesOn guard kept stream asks → IsAsk guard kept ask
    → (more : List ℕ) → behind_asks guard (asks ++ ask ∷ []) (stream ++ more) ≡ behind_first (Some (ask, more))
behind_asked guard kept stream asks ask goes is more =
    behind_more guard asks ask (stream ++ more)
    ∙ ap (λ (rest : List ℕ). behind_first (first_ask guard rest)) (goes.left more ∙ sym (append_assoc goes.dropped kept more))
    ∙ ap behind_first (first_front guard (goes.dropped ++ kept) more ask (dropped_more guard goes.dropped kept ask goes.dropped_is is))

-- how the stream goes on

pub goes_none : (guard : Guard) → GoesOn guard [] [] []
goes_none guard = record { next = λ more later are. are; dropped = []; dropped_is = refl; left = λ more. refl }

pub goes_more : (guard : Guard) (kept front stream : List ℕ) (asks : List Ask) → GoesOn guard kept stream asks → GoesOn guard (kept ++ front) (stream ++ front) asks
goes_more guard kept front stream asks goes = record {
  next = λ more later are.
      subst (λ (all : List ℕ). AreAsks guard all (asks ++ later)) (sym (append_assoc stream front more))
      (goes.next (front ++ more) later (subst (λ (all : List ℕ). AreAsks guard all later) (append_assoc kept front more) are));
  dropped = goes.dropped;
  dropped_is = goes.dropped_is;
  left = λ more.
      ap (behind_asks guard asks) (append_assoc stream front more) ∙ goes.left (front ++ more)
      ∙ ap (λ (back : List ℕ). goes.dropped ++ back) (sym (append_assoc kept front more));
}

pub goes_call : (guard : Guard) (kept body stream : List ℕ) (close : Bool) (asks : List Ask) → GoesOn guard kept stream asks
    → IsAsk guard kept (Call body close) → GoesOn guard [] stream (asks ++ Call body close ∷ [])
goes_call guard kept body stream close asks goes is = record {
  next = λ more later are.
      subst (λ (all : List Ask). AreAsks guard (stream ++ more) all) (sym (append_assoc asks (Call body close ∷ []) later))
      (goes.next more (Call body close ∷ later) (kept, more, refl, is, are));
  dropped = [];
  dropped_is = refl;
  left = behind_asked guard kept stream asks (Call body close) goes is;
}

pub goes_over : (guard : Guard) (kept stream : List ℕ) (refusal : Refusal) (asks : List Ask) → GoesOn guard kept stream asks
    → IsAsk guard kept (Bad refusal) → IsOver guard stream (asks ++ Bad refusal ∷ [])
goes_over guard kept stream refusal asks goes is = record {
  asked = λ more. goes.next more (Bad refusal ∷ []) (kept, more, refl, is, refl);
  left = behind_asked guard kept stream asks (Bad refusal) goes is;
}

pub goes_dropped : (guard : Guard) (front stream : List ℕ) (asks : List Ask) → list_all ends_line front ≡ true → GoesOn guard [] stream asks
    → GoesOn guard [] (stream ++ front) asks
goes_dropped guard front stream asks all goes = record {
  next = λ more later are.
      subst (λ (whole : List ℕ). AreAsks guard whole (asks ++ later)) (sym (append_assoc stream front more))
      (goes.next (front ++ more) later (behind_dropped guard front more later all are));
  dropped = goes.dropped ++ front;
  dropped_is = all_of goes.dropped front goes.dropped_is all;
  left = λ more.
      ap (behind_asks guard asks) (append_assoc stream front more) ∙ goes.left (front ++ more)
      ∙ sym (append_assoc goes.dropped front more);
}
