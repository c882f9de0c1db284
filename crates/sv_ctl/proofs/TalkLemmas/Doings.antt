-- What was done of a conversation, one part after the other.
use Rattle.std.proofs.Common.{◌≡◌, ◌++◌, ◌∷◌, ℕ, List, [], Option, None, Some, Ok, Err, inl, inr, refl, sym, ap, ◌∙◌, append_assoc, append-nil, option_map, subst}
use Rattle.std.proofs.KnownBytes.{Appends-nil, Appends-trans}
use Rattle.std.specs.Io.KnownBytes.{Appends}
use Rattle.std.specs.Option.{ForSome}
use Rattle.sv_ctl.specs.Ask.Asking.{Calls, request_of}
use Rattle.sv_ctl.specs.declared.ask.fault.AskFault.TheVariants.{Refused, LinkFailed, Ended, BadReply, Status, OutOfMemory}
use Rattle.sv_commands.specs.declared.status.Status as status
use Rattle.sv_ctl.specs.Talk.Answers.{Answer, IsKnown}
use Rattle.sv_ctl.specs.Talk.Conversation.{Said, Talk, after, asks, ends, goes_on, having, printing, stops}
use Rattle.sv_ctl.specs.Talk.Courses.{settled}
use Rattle.sv_ctl.specs.Talk.Doings.{Adds, AreMade, Breaks, Comes, Fails, Goes, IsMade, Tells}
use Rattle.sv_ctl.specs.declared.talk.course.Course.{Course}
use Rattle.sv_ctl.specs.declared.talk.course.Course.TheVariants.{On, Broken, Quit, Lost, NoMemory, Unprinted}
use Rattle.sv_ctl.specs.declared.talk.server.Server.{Server}
use Rattle.sv_ctl.specs.declared.talk.told.Told.{Told}
use Rattle.sv_out.specs.Written.{AppendsFront}
use Rattle.sv_out.specs.declared.connection.Exchange.{Exchange}
use Rattle.sv_xmlcall.specs.Trees.{CallTree}

-- ---- texts

pub having_more : (calls more : List CallTree) (text further : List ℕ) (said : Said)
    → having calls text (having more further said) ≡ having (calls ++ more) (text ++ further) said
having_more calls more text further said =
    rw (append_assoc calls more said.calls, append_assoc text further said.text) refl

front_more : (old mid new : Option (List ℕ)) (text further : List ℕ) → Appends old mid text → AppendsFront mid new further
    → AppendsFront old new (text ++ further)
front_more old mid new text further wrote more = record {
  front = text ++ more.front;
  rest = more.rest;
  parts = ap (λ l. text ++ l) more.parts ∙ sym (append_assoc text more.front more.rest);
  appends = Appends-trans old mid new text more.front wrote more.appends;
}

whole_front : (old new : Option (List ℕ)) (text : List ℕ) → Appends old new text → AppendsFront old new text
whole_front old new text wrote = record {
  front = text;
  rest = [];
  parts = sym (append-nil text);
  appends = wrote;
}

-- ---- exchanges

made_more : (server : Server) (calls more : List CallTree) (answers further : List Answer) (first second : List Exchange)
    → AreMade server calls answers first → AreMade server more further second
    → AreMade server (calls ++ more) (answers ++ further) (first ++ second)
made_more server [] more [] further first second made following_on = rw made following_on
made_more server [] more (answer ∷ answers) further first second made following_on = absurd made
made_more server (call ∷ calls) more [] further first second made following_on = absurd made
made_more server (call ∷ calls) more (answer ∷ answers) further first second made following_on = (
  made.0,
  made.1 ++ second,
  made.2,
  made_more server calls more answers further made.1 second made.3 following_on,
  ap (λ l. l ++ second) made.4 ∙ append_assoc made.0 made.1 second,
)

adds_more : (server : Server) (before : List Exchange) (after : Option (List Exchange)) (calls more : List CallTree)
    (answers further : List Answer) (first : List Exchange) → AreMade server calls answers first
    → Adds server (before ++ first) after more further → Adds server before after (calls ++ more) (answers ++ further)
adds_more server before after calls more answers further first made following_on = record {
  exchanges = first ++ following_on.exchanges;
  told = following_on.told ∙ ap (λ l. Some l) (append_assoc before first following_on.exchanges);
  made = made_more server calls more answers further first following_on.exchanges made following_on.made;
}

pub tells_more : (server : Server) (before mid after : Option (List Exchange)) (calls more : List CallTree)
    (answers further : List Answer) → Tells server before mid calls answers → Tells server mid after more further
    → Tells server before after (calls ++ more) (answers ++ further)
tells_more server before mid after calls more answers further tells following_on told is =
    let first = tells told is in
    adds_more server told after calls more answers further first.exchanges first.made
    (following_on (told ++ first.exchanges) first.told)

pub tells_none : (server : Server) (told : Option (List Exchange)) → Tells server told told [] []
tells_none server told exchanges is = record {
  exchanges = [];
  told = is ∙ ap (λ l. Some l) (sym (append-nil exchanges));
  made = refl;
}

one_made : (server : Server) (call : CallTree) (answer : Answer) (exchanges : List Exchange)
    → IsMade server call answer exchanges → AreMade server (call ∷ []) (answer ∷ []) exchanges
one_made server call answer exchanges made = (exchanges, [], made, refl, sym (append-nil exchanges))

pub adds_one : (server : Server) (before : List Exchange) (after : Option (List Exchange)) (call : CallTree) (answer : Answer)
    (exchanges : List Exchange) → after ≡ Some (before ++ exchanges) → IsMade server call answer exchanges
    → Adds server before after (call ∷ []) (answer ∷ [])
adds_one server before after call answer exchanges told made =
    record { exchanges = exchanges; told = told; made = one_made server call answer exchanges made }

adds_call : (server : Server) (before : List Exchange) (after : Option (List Exchange)) (call : CallTree) (answer : Answer)
    → Calls before after server.place (request_of server.client call) answer → IsKnown answer
    → Adds server before after (call ∷ []) (answer ∷ [])
adds_call server before after call (Ok answered) calls known =
    adds_one server before after call (Ok answered) (calls.0 ∷ []) calls.1 (calls.0, refl, calls.2)
adds_call server before after call (Err Refused) calls known =
    adds_one server before after call (Err Refused) [] (calls ∙ ap (λ l. Some l) (sym (append-nil before))) refl
adds_call server before after call (Err LinkFailed) calls known =
    adds_one server before after call (Err LinkFailed) (calls.0 ∷ []) calls.1 (calls.0, refl, calls.2)
adds_call server before after call (Err Ended) calls known =
    adds_one server before after call (Err Ended) (calls.0 ∷ []) calls.1 (calls.0, refl, calls.2)
adds_call server before after call (Err BadReply) calls known =
    adds_one server before after call (Err BadReply) (calls.0 ∷ []) calls.1 (calls.0, refl, calls.2)
adds_call server before after call (Err (Status number)) calls known =
    adds_one server before after call (Err (Status number)) (calls.0 ∷ []) calls.1 (calls.0, refl, calls.2)
adds_call server before after call (Err OutOfMemory) calls known = absurd known

pub tells_call : (server : Server) (before after : Option (List Exchange)) (call : CallTree) (answer : Answer)
    → ForSome before (λ told. Calls told after server.place (request_of server.client call) answer)
    → IsKnown answer → Tells server before after (call ∷ []) (answer ∷ [])
tells_call server before after call answer calls known told is =
    adds_call server told after call answer (calls told is) known

-- ---- parts of a conversation

pub nothing_done : (server : Server) (told : Option (List Exchange)) (written : Option (List ℕ)) (talk : Talk)
    → Goes server told told written written talk talk
nothing_done server told written talk = record {
  answers = [];
  calls = [];
  text = [];
  tells = tells_none server told;
  wrote = Appends-nil written;
  same = λ more. refl;
}

-- a talk that says the same
pub same_talk : (server : Server) (told : Option (List Exchange)) (written : Option (List ℕ)) (talk other : Talk)
    → ((answers : List Answer) → talk answers ≡ other answers) → Goes server told told written written talk other
same_talk server told written talk other same = record {
  answers = [];
  calls = [];
  text = [];
  tells = tells_none server told;
  wrote = Appends-nil written;
  same = λ more. same more;
}

pub goes_then : (server : Server) (before mid after : Option (List Exchange)) (old now new : Option (List ℕ))
    (talk between left : Talk) → Goes server before mid old now talk between → Goes server mid after now new between left
    → Goes server before after old new talk left
goes_then server before mid after old now new talk between left first second = record {
  answers = first.answers ++ second.answers;
  calls = first.calls ++ second.calls;
  text = first.text ++ second.text;
  tells = tells_more server before mid after first.calls second.calls first.answers second.answers first.tells second.tells;
  wrote = Appends-trans old now new first.text second.text first.wrote second.wrote;
  same = λ more. ap talk (append_assoc first.answers second.answers more) ∙ first.same (second.answers ++ more)
      ∙ ap (having first.calls first.text) (second.same more)
      ∙ having_more first.calls second.calls first.text second.text (left more);
}

goes_breaks : (server : Server) (before mid : Option (List Exchange)) (old now new : Option (List ℕ))
    (talk between : Talk) → Goes server before mid old now talk between → Breaks now new between → Breaks old new talk
goes_breaks server before mid old now new talk between first second = record {
  answers = first.answers ++ second.answers;
  calls = first.calls ++ second.calls;
  text = first.text ++ second.text;
  left = second.left;
  wrote = front_more old now new first.text second.text first.wrote second.wrote;
  same = λ more. ap talk (append_assoc first.answers second.answers more) ∙ first.same (second.answers ++ more)
      ∙ ap (having first.calls first.text) (second.same more)
      ∙ having_more first.calls second.calls first.text second.text (second.left more);
}

goes_fails : (server : Server) (before mid after : Option (List Exchange)) (old now new : Option (List ℕ))
    (talk between : Talk) → Goes server before mid old now talk between → Fails server mid after now new between
    → Fails server before after old new talk
unfolding goes_breaks
goes_fails server before mid after old now new talk between first second = record {
  breaks = goes_breaks server before mid old now new talk between first second.breaks;
  tells = tells_more server before mid after first.calls second.breaks.calls first.answers second.breaks.answers
      first.tells second.tells;
}

pub goes_comes : (server : Server) (before mid after : Option (List Exchange)) (old now new : Option (List ℕ))
    (talk between : Talk) (next : status.Status → Talk) (course : Course) → Goes server before mid old now talk between
    → Comes server mid after now new between next course → Comes server before after old new talk next course
goes_comes server before mid after old now new talk between next (On so_far) first second =
    goes_then server before mid after old now new talk between (next so_far) first second
goes_comes server before mid after old now new talk between next Broken first second =
    goes_then server before mid after old now new talk between (ends Broken) first second
goes_comes server before mid after old now new talk between next (Quit so_far) first second =
    goes_then server before mid after old now new talk between (ends (Quit so_far)) first second
goes_comes server before mid after old now new talk between next Lost first second =
    goes_then server before mid after old now new talk between (ends Lost) first second
goes_comes server before mid after old now new talk between next NoMemory first second =
    goes_fails server before mid after old now new talk between first second
goes_comes server before mid after old now new talk between next Unprinted first second =
    goes_fails server before mid after old now new talk between first second

breaks_at : (server : Server) (before after : Option (List Exchange)) (old new : Option (List ℕ)) (talk left : Talk)
    → Goes server before after old new talk left → Breaks old new talk
breaks_at server before after old new talk left goes = record {
  answers = goes.answers;
  calls = goes.calls;
  text = goes.text;
  left = left;
  wrote = whole_front old new goes.text goes.wrote;
  same = goes.same;
}

pub fails_at : (server : Server) (before after : Option (List Exchange)) (old new : Option (List ℕ)) (talk left : Talk)
    → Goes server before after old new talk left → Fails server before after old new talk
unfolding breaks_at
fails_at server before after old new talk left goes = record {
  breaks = breaks_at server before after old new talk left goes;
  tells = goes.tells;
}

-- nothing was done
pub nothing_printed : (server : Server) (told : Option (List Exchange)) (written : Option (List ℕ)) (talk : Talk)
    → Fails server told told written written talk
nothing_printed server told written talk =
    fails_at server told told written written talk talk (nothing_done server told written talk)

-- what is gone through comes to its course
pub comes : (server : Server) (before after : Option (List Exchange)) (old new : Option (List ℕ)) (talk : Talk)
    (next : status.Status → Talk) (course : Course) → Goes server before after old new talk (goes_on course next)
    → Comes server before after old new talk next course
comes server before after old new talk next (On so_far) goes = goes
comes server before after old new talk next Broken goes = goes
comes server before after old new talk next (Quit so_far) goes = goes
comes server before after old new talk next Lost goes = goes
comes server before after old new talk next NoMemory goes =
    fails_at server before after old new talk (ends NoMemory) goes
comes server before after old new talk next Unprinted goes =
    fails_at server before after old new talk (ends Unprinted) goes

-- ---- what is printed

pub printed : (server : Server) (told : Option (List Exchange)) (old new : Option (List ℕ)) (text : List ℕ) (left : Talk)
    → Appends old new text → Goes server told told old new (printing text left) left
printed server told old new text left wrote = record {
  answers = [];
  calls = [];
  text = text;
  tells = tells_none server told;
  wrote = wrote;
  same = λ more. refl;
}

pub unprinted : (server : Server) (told : Option (List Exchange)) (old new : Option (List ℕ)) (text : List ℕ) (left : Talk)
    → AppendsFront old new text → Fails server told told old new (printing text left)
unprinted server told old new text left wrote = record {
  breaks = record { answers = []; calls = []; text = text; left = left; wrote = wrote; same = λ more. refl };
  tells = tells_none server told;
}

-- the call is made, and what is said of its answer is to be printed
pub asked : (server : Server) (before after : Option (List Exchange)) (written : Option (List ℕ)) (call : CallTree)
    (answer : Answer) (told : Answer → Told) (next : status.Status → Talk)
    → Tells server before after (call ∷ []) (answer ∷ [])
    → Goes server before after written written (asks call told next)
    (printing (told answer).text (goes_on (told answer).course next))
asked server before after written call answer told next tells = record {
  answers = answer ∷ [];
  calls = call ∷ [];
  text = [];
  tells = tells;
  wrote = Appends-nil written;
  same = λ more. refl;
}

-- ---- memory was refused in a call, or after it

call_told : (server : Server) (before : List Exchange) (after : Option (List Exchange)) (written : Option (List ℕ))
    (call : CallTree) (answer : Answer) (told : Answer → Told) (next : status.Status → Talk) (exchanges : List Exchange)
    → after ≡ Some (before ++ exchanges) → IsMade server call answer exchanges
    → Fails server (Some before) after written written (asks call told next)
call_told server before after written call answer told next exchanges kept made =
    fails_at server (Some before) after written written (asks call told next)
    (printing (told answer).text (goes_on (told answer).course next))
    (asked server (Some before) after written call answer told next
    (λ some is. adds_one server some after call answer exchanges (kept ∙ ap (λ l. option_map (λ b. b ++ exchanges) l) is) made))

pub call_untold : (server : Server) (before : List Exchange) (after : Option (List Exchange)) (written : Option (List ℕ))
    (talk : Talk) → after ≡ Some before → Fails server (Some before) after written written talk
call_untold server before after written talk same =
    subst (λ (a : Option (List Exchange)). Fails server (Some before) a written written talk) (sym same)
    (nothing_printed server (Some before) written talk)

call_failed : (server : Server) (before : List Exchange) (after : Option (List Exchange)) (written : Option (List ℕ))
    (call : CallTree) (answer : Answer) (told : Answer → Told) (next : status.Status → Talk)
    → Calls before after server.place (request_of server.client call) answer
    → Fails server (Some before) after written written (asks call told next)
call_failed server before after written call (Ok answered) told next calls =
    call_told server before after written call (Ok answered) told next (calls.0 ∷ []) calls.1 (calls.0, refl, calls.2)
call_failed server before after written call (Err Refused) told next calls =
    call_told server before after written call (Err Refused) told next []
    (calls ∙ ap (λ l. Some l) (sym (append-nil before))) refl
call_failed server before after written call (Err LinkFailed) told next calls =
    call_told server before after written call (Err LinkFailed) told next (calls.0 ∷ []) calls.1 (calls.0, refl, calls.2)
call_failed server before after written call (Err Ended) told next calls =
    call_told server before after written call (Err Ended) told next (calls.0 ∷ []) calls.1 (calls.0, refl, calls.2)
call_failed server before after written call (Err BadReply) told next calls =
    call_told server before after written call (Err BadReply) told next (calls.0 ∷ []) calls.1 (calls.0, refl, calls.2)
call_failed server before after written call (Err (Status number)) told next calls =
    call_told server before after written call (Err (Status number)) told next (calls.0 ∷ []) calls.1 (calls.0, refl, calls.2)
call_failed server before after written call (Err OutOfMemory) told next (inl same) =
    call_untold server before after written (asks call told next) same
call_failed server before after written call (Err OutOfMemory) told next (inr kept) =
    call_told server before after written call (Err OutOfMemory) told next (kept.0 ∷ []) kept.1 (kept.0, refl, kept.2)

pub untold_failed : (server : Server) (after : Option (List Exchange)) (written : Option (List ℕ)) (talk : Talk)
    → Fails server None after written written talk
untold_failed server after written talk = record {
  breaks = breaks_at server None None written written talk talk (nothing_done server None written talk);
  tells = λ told is. absurd cc;
}

-- nothing was printed of the answer to a call
pub call_unsaid : (server : Server) (before after : Option (List Exchange)) (written : Option (List ℕ)) (call : CallTree)
    (answer : Answer) (told : Answer → Told) (next : status.Status → Talk)
    → ForSome before (λ exchanges. Calls exchanges after server.place (request_of server.client call) answer)
    → Fails server before after written written (asks call told next)
call_unsaid server None after written call answer told next calls =
    untold_failed server after written (asks call told next)
call_unsaid server (Some before) after written call answer told next calls =
    call_failed server before after written call answer told next (calls before refl)

-- ---- a line after another

ended : (calls : List CallTree) (text : List ℕ) (course : Course) (next : status.Status → Talk) (more : List Answer)
    → after (having calls text (ends course more)) next ≡ having calls text (goes_on (settled course) next more)
ended calls text course next more = rw (append-nil calls, append-nil text) refl

after_having : (calls : List CallTree) (text : List ℕ) (said : Said) (next : status.Status → Talk)
    → after (having calls text said) next ≡ having calls text (after said next)
after_having calls text said next =
    let rest = goes_on (settled said.course) next said.left in
    rw (append_assoc calls said.calls rest.calls, append_assoc text said.text rest.text) refl

goes_after : (server : Server) (before after_it : Option (List Exchange)) (old new : Option (List ℕ)) (talk : Talk)
    (course : Course) (next : status.Status → Talk) → Goes server before after_it old new talk (ends course)
    → Goes server before after_it old new (λ answers. after (talk answers) next) (goes_on (settled course) next)
goes_after server before after_it old new talk course next goes = record {
  answers = goes.answers;
  calls = goes.calls;
  text = goes.text;
  tells = goes.tells;
  wrote = goes.wrote;
  same = λ more. ap (λ said. after said next) (goes.same more) ∙ ended goes.calls goes.text course next more;
}

breaks_after : (old new : Option (List ℕ)) (talk : Talk) (next : status.Status → Talk) → Breaks old new talk
    → Breaks old new (λ answers. after (talk answers) next)
breaks_after old new talk next breaks = record {
  answers = breaks.answers;
  calls = breaks.calls;
  text = breaks.text;
  left = λ answers. after (breaks.left answers) next;
  wrote = breaks.wrote;
  same = λ more. ap (λ said. after said next) (breaks.same more)
      ∙ after_having breaks.calls breaks.text (breaks.left more) next;
}

fails_after : (server : Server) (before after_it : Option (List Exchange)) (old new : Option (List ℕ)) (talk : Talk)
    (next : status.Status → Talk) → Fails server before after_it old new talk
    → Fails server before after_it old new (λ answers. after (talk answers) next)
unfolding breaks_after
fails_after server before after_it old new talk next fails = record {
  breaks = breaks_after old new talk next fails.breaks;
  tells = fails.tells;
}

-- what a command comes to, where a further line may follow
pub comes_after : (server : Server) (before after_it : Option (List Exchange)) (old new : Option (List ℕ)) (talk : Talk)
    (course : Course) (next : status.Status → Talk) → Comes server before after_it old new talk stops course
    → Comes server before after_it old new (λ answers. after (talk answers) next) next (settled course)
comes_after server before after_it old new talk (On so_far) next goes =
    goes_after server before after_it old new talk (On so_far) next goes
comes_after server before after_it old new talk Broken next goes =
    goes_after server before after_it old new talk Broken next goes
comes_after server before after_it old new talk (Quit so_far) next goes =
    goes_after server before after_it old new talk (Quit so_far) next goes
comes_after server before after_it old new talk Lost next goes =
    goes_after server before after_it old new talk Lost next goes
comes_after server before after_it old new talk NoMemory next fails =
    fails_after server before after_it old new talk next fails
comes_after server before after_it old new talk Unprinted next fails =
    fails_after server before after_it old new talk next fails
