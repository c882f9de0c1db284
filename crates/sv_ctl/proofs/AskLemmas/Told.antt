-- What a link tells while a call goes over it.
use Rattle.std.proofs.Common.{◌≡◌, ◌<◌, ◌≤◌, ◌+◌, ◌-◌, ◌||◌, ◌==◌, ◌++◌, ℕ, List, [], false, true, Bool, Option, None, Some, Result, Ok, Err, take, length, nat_lt, refl, sym, ap, ◌∙◌, append_assoc, append-nil, option_map, subst, zero, suc, arith}
use Rattle.std.proofs.Math.Bool.{or-false}
use Rattle.std.proofs.lemmas.Bool.{lt-ltb, ne_eqb}
use Rattle.std.proofs.lemmas.List.{length-append, take-append-le}
use Rattle.sv_http.specs.ReplyPlaces.{StandsForReply, Answers, Continues}
use Rattle.sv_http.specs.declared.reply_reader.Replied.{Replied}
use Rattle.sv_http.specs.declared.reply_reader.ReplyReader.{ReplyReader}
use Rattle.sv_out.specs.Exchanges.{heard_more, sent_more, SentFront}
use Rattle.sv_out.specs.declared.connection.Exchange.{Exchange}
use Rattle.sv_xmlcall.specs.declared.call.Answered.{Answered}
use Rattle.sv_ctl.proofs.AskLemmas.Replies.{empty_goes_on, goes_short}
use Rattle.sv_ctl.specs.Ask.Asking.{having_heard, Asks, Listens, Sends, Hears}
use Rattle.sv_ctl.specs.Ask.Hearing.{HearsOn, Heard, Comes, most_bytes}
use Rattle.sv_ctl.specs.declared.ask.fault.AskFault.{AskFault}
use Rattle.sv_ctl.specs.declared.ask.fault.AskFault.TheVariants.{Refused, LinkFailed, Ended, BadReply, Status, OutOfMemory}

nothing_more : (e : Exchange) → e ≡ having_heard [] false e
nothing_more e = rw (append-nil e.heard, or-false e.ended) refl

-- a link over which nothing was heard tells what it told
pub heard_nothing : (told : Option Exchange) → told ≡ option_map (having_heard [] false) told
heard_nothing None = refl
heard_nothing (Some e) = ap (λ x. Some x) (nothing_more e)

none_sent : (e : Exchange) → e ≡ sent_more [] e
none_sent e = rw (append-nil e.sent) refl

pub sent_nothing : (told : Option Exchange) → told ≡ option_map (sent_more []) told
sent_nothing None = refl
sent_nothing (Some e) = ap (λ x. Some x) (none_sent e)

read_on : (e : Exchange) (heard into : List ℕ) (count : ℕ) → 0 < count
    → heard_more count into (having_heard heard false e) ≡ having_heard (heard ++ take count into) false e
read_on e heard into count some =
    let more : (count == 0) ≡ false = ne_eqb count 0 (λ none. absurd (omega (arith, none))) in
    rw (append_assoc e.heard heard (take count into), more, or-false (e.ended || false)) refl

told_more : (old mid new : Option Exchange) (heard into : List ℕ) (count : ℕ) → 0 < count
    → mid ≡ option_map (having_heard heard false) old → new ≡ option_map (heard_more count into) mid
    → new ≡ option_map (having_heard (heard ++ take count into) false) old
told_more None mid new heard into count some before after =
    after ∙ ap (λ m. option_map (heard_more count into) m) before
told_more (Some e) mid new heard into count some before after =
    after ∙ ap (λ m. option_map (heard_more count into) m) before ∙ ap (λ x. Some x) (read_on e heard into count some)

end_on : (e : Exchange) (heard into : List ℕ) → 0 < length into
    → heard_more 0 into (having_heard heard false e) ≡ having_heard heard true e
end_on e heard into room =
    let there : nat_lt 0 (length into) ≡ true = lt-ltb 0 (length into) room in
    rw (append-nil (e.heard ++ heard), there, or-false e.ended) refl

told_end : (old mid new : Option Exchange) (heard into : List ℕ) → 0 < length into
    → mid ≡ option_map (having_heard heard false) old → new ≡ option_map (heard_more 0 into) mid
    → new ≡ option_map (having_heard heard true) old
told_end None mid new heard into room before after = after ∙ ap (λ m. option_map (heard_more 0 into) m) before
told_end (Some e) mid new heard into room before after =
    after ∙ ap (λ m. option_map (heard_more 0 into) m) before ∙ ap (λ x. Some x) (end_on e heard into room)

told_same : (old mid new : Option Exchange) (heard : List ℕ) → mid ≡ option_map (having_heard heard false) old
    → new ≡ option_map (λ e. e) mid → new ≡ option_map (having_heard heard false) old
told_same None mid new heard before after = after ∙ ap (λ m. option_map (λ e. e) m) before
told_same (Some e) mid new heard before after = after ∙ ap (λ m. option_map (λ e. e) m) before

-- ---- the hearing of a reply

pub hears_first : (reader : ReplyReader) (told : Option Exchange) → StandsForReply reader []
    → HearsOn reader most_bytes told told
hears_first reader told stands = record {
  heard = [];
  stands = stands;
  goes_on = empty_goes_on;
  size = refl;
  told = heard_nothing told;
}

pub has_room : (reader : ReplyReader) (room : ℕ) (old mid : Option Exchange) → HearsOn reader room old mid → 0 < room
has_room reader room old mid hears = omega (arith, hears.size, goes_short hears.heard hears.goes_on)

piece_size : (heard piece : List ℕ) (room count : ℕ) → length heard + room ≡ most_bytes → length piece ≡ count
    → length (heard ++ piece) < most_bytes → count < room
piece_size heard piece room count sized is short = omega (arith, length-append heard piece)

pub leaves_room : (reader : ReplyReader) (room count : ℕ) (old mid : Option Exchange) (piece : List ℕ)
    → HearsOn reader room old mid → length piece ≡ count
    → ((stream : List ℕ) → StandsForReply reader stream → Answers (stream ++ piece) (Ok None)) → count < room
leaves_room reader room count old mid piece hears is answers =
    piece_size hears.heard piece room count hears.size is
    (goes_short (hears.heard ++ piece) (answers hears.heard hears.stands))

pub hears_more : (reader next : ReplyReader) (room count : ℕ) (old mid new : Option Exchange) (into piece : List ℕ)
    → HearsOn reader room old mid → 0 < count → piece ≡ take count into → length piece ≡ count
    → new ≡ option_map (heard_more count into) mid
    → ((stream : List ℕ) → StandsForReply reader stream → Answers (stream ++ piece) (Ok None))
    → ((stream : List ℕ) → StandsForReply reader stream → Continues next (stream ++ piece) (Ok None))
    → HearsOn next (room - count) old new
hears_more reader next room count old mid new into piece hears some is sized told answers stands =
    let left = leaves_room reader room count old mid piece hears sized answers in
    record {
      heard = hears.heard ++ piece;
      stands = stands hears.heard hears.stands;
      goes_on = answers hears.heard hears.stands;
      size = omega (arith, length-append hears.heard piece, hears.size, left, sized);
      told = rw is (told_more old mid new hears.heard into count some hears.told told);
    }

pub heard_piece : (reader : ReplyReader) (room count : ℕ) (old mid new : Option Exchange) (into piece : List ℕ)
    (result : Result Replied AskFault) → HearsOn reader room old mid → 0 < count → piece ≡ take count into
    → new ≡ option_map (heard_more count into) mid
    → ((stream : List ℕ) → StandsForReply reader stream → Comes (stream ++ piece) false result)
    → Heard old new result
heard_piece reader room count old mid new into piece result hears some is told comes = record {
  heard = hears.heard ++ piece;
  ended = false;
  comes = comes hears.heard hears.stands;
  told = rw is (told_more old mid new hears.heard into count some hears.told told);
}

pub heard_end : (reader : ReplyReader) (room : ℕ) (old mid new : Option Exchange) (into : List ℕ)
    → HearsOn reader room old mid → 0 < length into → new ≡ option_map (heard_more 0 into) mid → Heard old new (Err Ended)
heard_end reader room old mid new into hears some told = record {
  heard = hears.heard;
  ended = true;
  comes = (hears.goes_on, refl);
  told = told_end old mid new hears.heard into some hears.told told;
}

pub heard_broken : (reader : ReplyReader) (room : ℕ) (old mid new : Option Exchange)
    → HearsOn reader room old mid → new ≡ option_map (λ e. e) mid → Heard old new (Err LinkFailed)
heard_broken reader room old mid new hears told = record {
  heard = hears.heard;
  ended = false;
  comes = tt;
  told = told_same old mid new hears.heard hears.told told;
}

-- ---- a call over a link

pub asks_nothing : (told : Option Exchange) (request : List ℕ) → Asks told told request (Err OutOfMemory)
asks_nothing told request = record {
  sent = [];
  heard = [];
  ended = false;
  sends = record { rest = request; parts = refl };
  hears = tt;
  told = heard_nothing told ∙ ap (λ t. option_map (having_heard [] false) t) (sent_nothing told);
}

pub asks_broken : (old new : Option Exchange) (request : List ℕ) → SentFront old new request
    → Asks old new request (Err LinkFailed)
asks_broken old new request front = record {
  sent = front.front;
  heard = [];
  ended = false;
  sends = record { rest = front.rest; parts = front.parts };
  hears = tt;
  told = heard_nothing new ∙ ap (λ t. option_map (having_heard [] false) t) front.sent;
}

-- what is heard after a request that was sent
sends_all : (request : List ℕ) (heard : List ℕ) (ended : Bool) (result : Result Answered AskFault) → Hears heard ended result → Sends request request result
sends_all request heard ended (Ok answered) hears = refl
sends_all request heard ended (Err LinkFailed) hears = record { rest = []; parts = sym (append-nil request) }
sends_all request heard ended (Err OutOfMemory) hears = record { rest = []; parts = sym (append-nil request) }
sends_all request heard ended (Err Refused) hears = hears
sends_all request heard ended (Err Ended) hears = refl
sends_all request heard ended (Err BadReply) hears = refl
sends_all request heard ended (Err (Status status)) hears = refl

pub asks_all : (old mid new : Option Exchange) (request : List ℕ) (result : Result Answered AskFault)
    → mid ≡ option_map (sent_more request) old → Listens mid new result → Asks old new request result
asks_all old mid new request result sent listens = record {
  sent = request;
  heard = listens.heard;
  ended = listens.ended;
  sends = sends_all request listens.heard listens.ended result listens.hears;
  hears = listens.hears;
  told = listens.told ∙ ap (λ t. option_map (having_heard listens.heard listens.ended) t) sent;
}

pub asks_refused : (told : Option Exchange) (request : List ℕ) (result : Result Answered AskFault) → result ≡ Err OutOfMemory
    → Asks told told request result
asks_refused told request result is = subst (λ (r : Result Answered AskFault). Asks told told request r) (sym is) (asks_nothing told request)

nonzero : (n : ℕ) → (n ≡ 0 → ⊥) → 0 < n
nonzero zero ne = absurd (ne refl)
nonzero (suc n) ne = omega arith

-- what a read put at the front of the buffer, and what it comes to
pub heard_front : (reader : ReplyReader) (room count : ℕ) (old mid new : Option Exchange) (into rest piece : List ℕ)
    (result : Result Replied AskFault) → HearsOn reader room old mid → (count ≡ 0 → ⊥) → count ≤ length into
    → piece ≡ take count (into ++ rest) → new ≡ option_map (heard_more count into) mid
    → ((stream : List ℕ) → StandsForReply reader stream → Comes (stream ++ piece) false result)
    → Heard old new result
heard_front reader room count old mid new into rest piece result hears some fits is told comes =
    heard_piece reader room count old mid new into piece result hears (nonzero count some) (is ∙ take-append-le count into rest fits) told comes
