-- What a dial tells once a link was given back.
use Rattle.std.proofs.Common.{◌≡◌, ◌≤◌, ◌^◌, ◌-◌, ◌++◌, ◌∷◌, ℕ, zero, suc, Bool, List, [], Option, Some, Result, Ok, Err, min, refl, ap, ◌∙◌, option_map, arith, inl, inr, subst, sym, IfOk}
use Rattle.std.specs.Option.{ForSome}
use Rattle.sv_base.specs.declared.config.ClientSpec.{ClientSpec}
use Rattle.sv_base.specs.declared.config.Place.{Place}
use Rattle.sv_http.specs.RequestText.{request_text}
use Rattle.sv_out.specs.Exchanges.{fresh, sent_more, Keeps}
use Rattle.sv_out.specs.Faults.{Rose}
use Rattle.sv_out.specs.Rises.{RisesWith}
use Rattle.sv_out.specs.declared.connection.Exchange.{Exchange}
use Rattle.sv_xmlcall.specs.Trees.{CallTree}
use Rattle.sv_xmlcall.specs.Written.{written_call}
use Rattle.sv_xmlcall.specs.declared.call.Answered.{Answered}
use Rattle.sv_ctl.specs.Ask.Asking.{Asks, Calls, Hears, IsExchange, IsLinkFailure, IsLost, RisesFor, having_heard, request_of}
use Rattle.sv_ctl.specs.Ask.ServerUrl.{host_of}
use Rattle.sv_ctl.specs.declared.ask.fault.AskFault.{AskFault}
use Rattle.sv_ctl.specs.declared.ask.fault.AskFault.TheVariants.{Refused, LinkFailed, Ended, BadReply, Status, OutOfMemory}

told_as : (before : List Exchange) (after : Option (List Exchange)) (place : Place) (request : List ℕ) (exchange : Exchange)
    (result : Result Answered AskFault) → after ≡ Some (before ++ exchange ∷ []) → IsExchange place request exchange result
    → Calls before after place request result
told_as before after place request exchange (Ok answered) kept is = (exchange, kept, is)
told_as before after place request exchange (Err Refused) kept is = absurd is.hears
told_as before after place request exchange (Err LinkFailed) kept is = (exchange, kept, is)
told_as before after place request exchange (Err Ended) kept is = (exchange, kept, is)
told_as before after place request exchange (Err BadReply) kept is = (exchange, kept, is)
told_as before after place request exchange (Err (Status status)) kept is = (exchange, kept, is)
told_as before after place request exchange (Err OutOfMemory) kept is = inr (exchange, kept, is)

pub given_back : (dial mid after : Option (List Exchange)) (before : List Exchange) (first last : Option Exchange) (place : Place)
    (request : List ℕ) (result : Result Answered AskFault) → dial ≡ Some before → mid ≡ dial
    → first ≡ Some (fresh place) → Asks first last request result → Keeps mid after last
    → Calls before after place request result
given_back dial mid after before first last place request result is_told same is_fresh asks keeps =
    let is_last = asks.told ∙ ap (λ e. option_map (having_heard asks.heard asks.ended) (option_map (sent_more asks.sent) e)) is_fresh in
    told_as before after place request (having_heard asks.heard asks.ended (sent_more asks.sent (fresh place))) result
    (keeps before (same ∙ is_told) (having_heard asks.heard asks.ended (sent_more asks.sent (fresh place))) is_last)
    (record { place_is = refl; sends = asks.sends; hears = asks.hears })

-- memory was refused, and the dial tells what it told
pub untold : (before after : Option (List Exchange)) (place : Place) (request : List ℕ) (result : Result Answered AskFault)
    → result ≡ Err OutOfMemory → after ≡ before → ForSome before (λ exchanges. Calls exchanges after place request result)
untold before after place request result is same exchanges told =
    subst (λ (r : Result Answered AskFault). Calls exchanges after place request r) (sym is) (inl (same ∙ told))

-- ---- the count of the dial

rises_later : (before now count : ℕ) → RisesWith before now count → min before (2 ^ 64 - 1) ≤ now
rises_later before now zero rises = omega (arith, rises.same refl)
rises_later before now (suc count) rises = omega (arith, rises.rose (omega arith))

-- a link that failed makes the dial's count rise
pub counted_back : (before now none count : ℕ) (result : Result Answered AskFault) → none ≡ 0 → (IsLinkFailure result → Rose none count)
    → (IsLost result → IsLinkFailure result) → RisesWith before now count → RisesFor before now (IsLost result)
counted_back before now none count result unharmed broke only rises = record {
  later = rises_later before now count rises;
  rose = λ lost. let up : Rose none count = broke (only lost) in rises.rose (omega (arith, up, unharmed));
}

pub only_link : (heard : List ℕ) (ended : Bool) (result : Result Answered AskFault) → Hears heard ended result → IsLost result
    → IsLinkFailure result
only_link heard ended (Ok answered) hears lost = lost
only_link heard ended (Err Refused) hears lost = absurd hears
only_link heard ended (Err LinkFailed) hears lost = tt
only_link heard ended (Err Ended) hears lost = lost
only_link heard ended (Err BadReply) hears lost = lost
only_link heard ended (Err (Status status)) hears lost = lost
only_link heard ended (Err OutOfMemory) hears lost = lost

pub sent_as : {E : Type 0} (result : Result (List ℕ) E) (client : ClientSpec) (call : CallTree) (body host username password : List ℕ)
    → body ≡ written_call call → host ≡ host_of client.url → username ≡ client.username → password ≡ client.password
    → IfOk result (λ text. text ≡ request_text body host username password) → IfOk result (λ text. text ≡ request_of client call)
unfolding request_of
sent_as (Err error) client call body host username password b h u p is = tt
sent_as (Ok text) client call body host username password b h u p is =
    is ∙ ap (λ x. request_text x host username password) b ∙ ap (λ x. request_text (written_call call) x username password) h
    ∙ ap (λ x. request_text (written_call call) (host_of client.url) x password) u
    ∙ ap (λ x. request_text (written_call call) (host_of client.url) client.username x) p
