-- The polls of a log, one after the other.
use Rattle.std.proofs.Common.{◌≡◌, ◌≢◌, ◌<◌, ◌-◌, ◌∷◌, ◌++◌, ◌∙◌, ℕ, zero, suc, List, [], Option, None, Some, Ok, Err, inl, inr, ap, append-nil, arith, option_map, refl, sym, subst}
use Rattle.std.proofs.KnownBytes.{Appends-nil}
use Rattle.std.specs.Option.{ForSome}
use Rattle.sv_ctl.specs.Ask.Asking.{Calls, request_of}
use Rattle.sv_ctl.specs.declared.ask.fault.AskFault.TheVariants.{Refused, LinkFailed, Ended, BadReply, Status, OutOfMemory}
use Rattle.sv_base.specs.declared.state.Stream.{Stream}
use Rattle.sv_commands.specs.declared.status.Status as status
use Rattle.sv_commands.specs.declared.status.Status.TheVariants.{Done}
use Rattle.sv_follow.specs.Following.{poll_said, polls_said}
use Rattle.sv_follow.specs.Polls.{after_answer, poll_told}
use Rattle.sv_follow.specs.Shows.{ShowsPoll}
use Rattle.sv_follow.specs.Tails.{tail_call}
use Rattle.sv_follow.specs.declared.follower.Follower.{Follower}
use Rattle.sv_out.specs.declared.connection.Exchange.{Exchange}
use Rattle.sv_ctl.proofs.TalkLemmas.Calls.{comes_off, went_on}
use Rattle.sv_ctl.proofs.TalkLemmas.Doings.{adds_one, call_untold, fails_at, goes_comes, tells_call, untold_failed}
use Rattle.sv_ctl.specs.Talk.Answers.{Answer, IsKnown}
use Rattle.sv_ctl.specs.Talk.Conversation.{Talk, goes_on, printing, stops}
use Rattle.sv_ctl.specs.Talk.Doings.{Comes, Fails, Goes, IsMade, Prints, Tells}
use Rattle.sv_ctl.specs.declared.talk.course.Course.{Course}
use Rattle.sv_ctl.specs.declared.talk.course.Course.TheVariants.{On, NoMemory}
use Rattle.sv_ctl.specs.declared.talk.server.Server.{Server}
use Rattle.sv_ctl.specs.declared.talk.told.Told.{Told}
use Rattle.sv_xmlcall.specs.Trees.{CallTree}

-- ---- one poll

-- what is to be printed of an answer, and what follows
rest_said : List ℕ → List ℕ → Follower → Answer → (Follower → Talk) → Talk
rest_said url name follower answer next =
    printing (poll_told url name follower answer).text
    (goes_on (poll_told url name follower answer).course (λ _. next (after_answer follower answer)))

-- the poll is made, and what its answer shows is to be printed
asked : (server : Server) (before after : Option (List Exchange)) (written : Option (List ℕ)) (url name : List ℕ)
    (channel : Stream) (follower : Follower) (answer : Answer) (next : Follower → Talk)
    → Tells server before after (tail_call name channel follower ∷ []) (answer ∷ [])
    → Goes server before after written written (poll_said url name channel follower next)
    (rest_said url name follower answer next)
unfolding rest_said
asked server before after written url name channel follower answer next tells = record {
  answers = answer ∷ [];
  calls = tail_call name channel follower ∷ [];
  text = [];
  tells = tells;
  wrote = Appends-nil written;
  same = λ more. refl;
}

pub shows : (answer : Answer) (old new : Option (List ℕ)) (url name : List ℕ) (follower now : Follower) (given : Told)
    (result : Course) → given ≡ poll_told url name follower answer → now ≡ after_answer follower answer → IsKnown answer
    → Prints old new given.text given.course result → ShowsPoll answer old new url name follower now result
unfolding rest_said
shows answer old new url name follower now given result is stands known prints server channel before after next calls =
    let printed_of : Prints old new (poll_told url name follower answer).text (poll_told url name follower answer).course result =
    subst (λ (t : Told). Prints old new t.text t.course result) is prints in
    subst (λ (f : Follower). Comes server before after old new (poll_said url name channel follower next) (λ _. next f) result) (sym stands)
    (goes_comes server before after after old old new (poll_said url name channel follower next)
    (rest_said url name follower answer next) (λ _. next (after_answer follower answer)) result
    (asked server before after old url name channel follower answer next
    (tells_call server before after (tail_call name channel follower) answer calls known))
    (printed_of server after (λ _. next (after_answer follower answer))))

-- ---- memory was refused in a poll, or after it

kept_failed : (server : Server) (before : List Exchange) (after : Option (List Exchange)) (written : Option (List ℕ))
    (url name : List ℕ) (channel : Stream) (follower : Follower) (answer : Answer) (next : Follower → Talk)
    (exchanges : List Exchange) → after ≡ Some (before ++ exchanges)
    → IsMade server (tail_call name channel follower) answer exchanges
    → Fails server (Some before) after written written (poll_said url name channel follower next)
kept_failed server before after written url name channel follower answer next exchanges kept made =
    fails_at server (Some before) after written written (poll_said url name channel follower next)
    (rest_said url name follower answer next)
    (asked server (Some before) after written url name channel follower answer next
    (λ some is. adds_one server some after (tail_call name channel follower) answer exchanges
    (kept ∙ ap (λ l. option_map (λ b. b ++ exchanges) l) is) made))

poll_failed : (server : Server) (before : List Exchange) (after : Option (List Exchange)) (written : Option (List ℕ))
    (url name : List ℕ) (channel : Stream) (follower : Follower) (answer : Answer) (next : Follower → Talk)
    → Calls before after server.place (request_of server.client (tail_call name channel follower)) answer
    → Fails server (Some before) after written written (poll_said url name channel follower next)
poll_failed server before after written url name channel follower (Ok answered) next calls =
    kept_failed server before after written url name channel follower (Ok answered) next (calls.0 ∷ []) calls.1 (calls.0, refl, calls.2)
poll_failed server before after written url name channel follower (Err Refused) next calls =
    kept_failed server before after written url name channel follower (Err Refused) next []
    (calls ∙ ap (λ l. Some l) (sym (append-nil before))) refl
poll_failed server before after written url name channel follower (Err LinkFailed) next calls =
    kept_failed server before after written url name channel follower (Err LinkFailed) next (calls.0 ∷ []) calls.1 (calls.0, refl, calls.2)
poll_failed server before after written url name channel follower (Err Ended) next calls =
    kept_failed server before after written url name channel follower (Err Ended) next (calls.0 ∷ []) calls.1 (calls.0, refl, calls.2)
poll_failed server before after written url name channel follower (Err BadReply) next calls =
    kept_failed server before after written url name channel follower (Err BadReply) next (calls.0 ∷ []) calls.1 (calls.0, refl, calls.2)
poll_failed server before after written url name channel follower (Err (Status number)) next calls =
    kept_failed server before after written url name channel follower (Err (Status number)) next (calls.0 ∷ []) calls.1
    (calls.0, refl, calls.2)
poll_failed server before after written url name channel follower (Err OutOfMemory) next (inl same) =
    call_untold server before after written (poll_said url name channel follower next) same
poll_failed server before after written url name channel follower (Err OutOfMemory) next (inr kept) =
    kept_failed server before after written url name channel follower (Err OutOfMemory) next (kept.0 ∷ []) kept.1 (kept.0, refl, kept.2)

-- nothing was printed of the answer to a poll
pub shows_nothing : (answer : Answer) (written : Option (List ℕ)) (url name : List ℕ) (follower now : Follower)
    → ShowsPoll answer written written url name follower now NoMemory
shows_nothing answer written url name follower now server channel None after next calls =
    untold_failed server after written (poll_said url name channel follower next)
shows_nothing answer written url name follower now server channel (Some before) after next calls =
    poll_failed server before after written url name channel follower answer next (calls before refl)

-- the poll by the call that was made
pub polled : (server : Server) (before after : Option (List Exchange)) (old new : Option (List ℕ)) (url name : List ℕ)
    (channel : Stream) (follower now : Follower) (call : CallTree) (answer : Answer) (result : Course)
    → call ≡ tail_call name channel follower → url ≡ server.client.url
    → ForSome before (λ told. Calls told after server.place (request_of server.client call) answer)
    → ShowsPoll answer old new url name follower now result
    → (next : Follower → Talk) → Comes server before after old new (poll_said server.client.url name channel follower next)
    (λ _. next now) result
polled server before after old new url name channel follower now call answer result is same calls shown next =
    subst (λ (u : List ℕ). Comes server before after old new (poll_said u name channel follower next) (λ _. next now) result) same
    (shown server channel before after next
    (subst (λ (c : CallTree). ForSome before (λ told. Calls told after server.place (request_of server.client c) answer)) is calls))

-- ---- many polls

-- some polls are one, and those that are left
first_of_polls : (url name : List ℕ) (channel : Stream) (left : ℕ) (follower : Follower) → 0 < left
    → polls_said url name channel left follower
    ≡ poll_said url name channel follower (polls_said url name channel (left - 1))
first_of_polls url name channel zero follower some = absurd (omega (arith, some))
first_of_polls url name channel (suc left) follower some =
    ap (λ (n : ℕ). poll_said url name channel follower (polls_said url name channel n))
    (let same : left ≡ suc left - 1 = omega arith in same)

-- a poll came to its course, after those before
polls_come : (server : Server) (before mid after : Option (List Exchange)) (old now new : Option (List ℕ)) (talk : Talk)
    (url name : List ℕ) (channel : Stream) (left : ℕ) (follower later : Follower) (course : Course) → 0 < left
    → Goes server before mid old now talk (polls_said url name channel left follower)
    → ((next : Follower → Talk) → Comes server mid after now new (poll_said url name channel follower next) (λ _. next later) course)
    → Comes server before after old new talk (λ _. polls_said url name channel (left - 1) later) course
polls_come server before mid after old now new talk url name channel left follower later course some goes come =
    goes_comes server before mid after old now new talk
    (poll_said url name channel follower (polls_said url name channel (left - 1)))
    (λ _. polls_said url name channel (left - 1) later) course
    (subst (λ (t : Talk). Goes server before mid old now talk t) (first_of_polls url name channel left follower some) goes)
    (come (polls_said url name channel (left - 1)))

-- it goes on
pub polls_on : (server : Server) (before mid after : Option (List Exchange)) (old now new : Option (List ℕ)) (talk : Talk)
    (url name : List ℕ) (channel : Stream) (left : ℕ) (follower later : Follower) (course : Course) (so_far : status.Status)
    → 0 < left → Goes server before mid old now talk (polls_said url name channel left follower)
    → ((next : Follower → Talk) → Comes server mid after now new (poll_said url name channel follower next) (λ _. next later) course)
    → course ≡ On so_far → Goes server before after old new talk (polls_said url name channel (left - 1) later)
polls_on server before mid after old now new talk url name channel left follower later course so_far some goes come is =
    went_on server before after old new talk (λ _. polls_said url name channel (left - 1) later) course so_far is
    (polls_come server before mid after old now new talk url name channel left follower later course some goes come)

-- it doesn't go on
pub polls_off : (server : Server) (before mid after : Option (List Exchange)) (old now new : Option (List ℕ)) (talk : Talk)
    (url name : List ℕ) (channel : Stream) (left : ℕ) (follower later : Follower) (course : Course) → 0 < left
    → Goes server before mid old now talk (polls_said url name channel left follower)
    → ((next : Follower → Talk) → Comes server mid after now new (poll_said url name channel follower next) (λ _. next later) course)
    → ((so_far : status.Status) → course ≢ On so_far) → Comes server before after old new talk stops course
polls_off server before mid after old now new talk url name channel left follower later course some goes come off =
    comes_off server before after old new talk (λ _. polls_said url name channel (left - 1) later) stops course off
    (polls_come server before mid after old now new talk url name channel left follower later course some goes come)

-- all polls were made
pub polls_over : (server : Server) (before after : Option (List Exchange)) (old new : Option (List ℕ)) (talk : Talk)
    (url name : List ℕ) (channel : Stream) (left : ℕ) (follower : Follower) → left ≡ 0
    → Goes server before after old new talk (polls_said url name channel left follower)
    → Comes server before after old new talk stops (On Done)
polls_over server before after old new talk url name channel left follower none goes =
    subst (λ (n : ℕ). Goes server before after old new talk (polls_said url name channel n follower)) none goes
