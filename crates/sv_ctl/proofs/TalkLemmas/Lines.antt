-- The lines of an input.
use Rattle.std.proofs.Common.{◌≡◌, ◌≢◌, ◌<◌, ◌≤◌, ◌==◌, get_or, ◌++◌, ◌∷◌, ℕ, List, [], true, false, Option, None, Some, refl, subst, length, arith}
use Rattle.sv_commands.specs.declared.status.Status as status
use Rattle.sv_commands.specs.declared.status.Status.TheVariants.{Refused}
use Rattle.sv_ctl.specs.Talk.Conversation.{InputEnd, Talk, after, command_said, ends, goes_on, heard_said, is_quit, last_line, line_by, line_said, lines_from, printing, prompt, prompted, stops, unknown_line, words_in, words_said}
use Rattle.sv_ctl.specs.Talk.Conversation.InputEnd.{Whole, Failing}
use Rattle.sv_ctl.specs.Talk.Courses.{settled}
use Rattle.sv_ctl.specs.Talk.Doings.{Comes, Goes, Prints}
use Rattle.sv_ctl.specs.declared.talk.course.Course.{Course}
use Rattle.sv_ctl.specs.declared.talk.course.Course.TheVariants.{On, Quit, NoMemory}
use Rattle.sv_ctl.specs.declared.talk.server.Server.{Server}
use Rattle.sv_out.specs.declared.connection.Exchange.{Exchange}
use Rattle.sv_ctl.proofs.TalkLemmas.Calls.{comes_off, went_on}
use Rattle.sv_ctl.proofs.TalkLemmas.Slices.{first_and_rest, rest_of}
use Rattle.sv_ctl.proofs.TalkLemmas.Doings.{comes_after, goes_comes, nothing_done, same_talk}
use Rattle.sv_ctl.specs.Talk.Answers.{Answer}

-- ---- the words of a line

pub no_words : (server : Server) (told : Option (List Exchange)) (written : Option (List ℕ)) (words : List (List ℕ))
    (so_far : status.Status) (next : status.Status → Talk) → length words ≡ 0
    → Goes server told told written written (words_said server.client.url words so_far next) (next so_far)
no_words server told written [] so_far next none = nothing_done server told written (next so_far)
no_words server told written (word ∷ words) so_far next none = absurd (omega (arith, none))

quit_said : (url : List ℕ) (words : List (List ℕ)) (so_far : status.Status) (next : status.Status → Talk) (answers : List Answer)
    → is_quit words ≡ true → words_said url words so_far next answers ≡ ends (Quit so_far) answers
quit_said url [] so_far next answers is = cc
quit_said url (word ∷ words) so_far next answers is = rw is refl

pub has_quit : (server : Server) (told : Option (List Exchange)) (written : Option (List ℕ)) (words : List (List ℕ))
    (so_far : status.Status) (next : status.Status → Talk) → is_quit words ≡ true
    → Goes server told told written written (words_said server.client.url words so_far next) (ends (Quit so_far))
has_quit server told written words so_far next is =
    same_talk server told written (words_said server.client.url words so_far next) (ends (Quit so_far))
    (λ answers. quit_said server.client.url words so_far next answers is)

command_line : (url : List ℕ) (words : List (List ℕ)) (so_far : status.Status) (next : status.Status → Talk) (answers : List Answer)
    → 0 < length words → is_quit words ≡ false
    → words_said url words so_far next answers ≡ after (command_said url words answers) next
command_line url [] so_far next answers some is = absurd (omega (arith, some))
command_line url (word ∷ words) so_far next answers some is = rw is refl

pub has_command : (server : Server) (before after_it : Option (List Exchange)) (old new : Option (List ℕ))
    (words : List (List ℕ)) (so_far : status.Status) (course : Course) (next : status.Status → Talk) → 0 < length words
    → is_quit words ≡ false → Comes server before after_it old new (command_said server.client.url words) stops course
    → Comes server before after_it old new (words_said server.client.url words so_far next) next (settled course)
has_command server before after_it old new words so_far course next some is come =
    let other : Talk = λ answers. after (command_said server.client.url words answers) next in
    goes_comes server before before after_it old old new (words_said server.client.url words so_far next) other next (settled course)
    (same_talk server before old (words_said server.client.url words so_far next) other
    (λ answers. command_line server.client.url words so_far next answers some is))
    (comes_after server before after_it old new (command_said server.client.url words) course next come)

-- ---- a line

pub line_words : (server : Server) (before after_it : Option (List Exchange)) (old new : Option (List ℕ)) (line : List ℕ)
    (words : List (List ℕ)) (so_far : status.Status) (course : Course) (next : status.Status → Talk)
    → Some words ≡ words_in line
    → Comes server before after_it old new (words_said server.client.url words so_far next) next course
    → Comes server before after_it old new (line_said server.client.url line so_far next) next course
line_words server before after_it old new line words so_far course next is come =
    subst (λ (o : Option (List (List ℕ))). Comes server before after_it old new (line_by server.client.url line o so_far next) next course)
    is come

pub line_unknown : (server : Server) (before after_it : Option (List Exchange)) (old new : Option (List ℕ)) (line : List ℕ)
    (so_far : status.Status) (course : Course) (next : status.Status → Talk) → None ≡ words_in line
    → Comes server before after_it old new (printing (unknown_line line) (next Refused)) next course
    → Comes server before after_it old new (line_said server.client.url line so_far next) next course
line_unknown server before after_it old new line so_far course next is come =
    subst (λ (o : Option (List (List ℕ))). Comes server before after_it old new (line_by server.client.url line o so_far next) next course)
    is come

-- after a line that went on the next one is asked for
pub line_prompted : (server : Server) (before mid : Option (List Exchange)) (old now new : Option (List ℕ)) (line : List ℕ)
    (so_far following_on : status.Status) (course result : Course) (next : status.Status → Talk) → course ≡ On following_on
    → ((following : status.Status → Talk) → Comes server before mid old now (line_said server.client.url line so_far following) following course)
    → Prints now new prompt (On following_on) result
    → Comes server before mid old new (line_said server.client.url line so_far (prompted next)) next result
line_prompted server before mid old now new line so_far following_on course result next is come prints =
    goes_comes server before mid mid old now new (line_said server.client.url line so_far (prompted next))
    (prompted next following_on) next result
    (went_on server before mid old now (line_said server.client.url line so_far (prompted next)) (prompted next) course following_on is
    (come (prompted next)))
    (prints server mid next)

-- ---- bytes of the input

pub feed_line : (end : InputEnd) (held rest : List ℕ) (byte : ℕ) → (byte == 10) ≡ true
    → lines_from end held (byte ∷ rest) ≡ held ∷ lines_from end [] rest
feed_line end held rest byte is = rw is refl

pub feed_byte : (end : InputEnd) (held rest : List ℕ) (byte : ℕ) → (byte == 10) ≡ false
    → lines_from end held (byte ∷ rest) ≡ lines_from end (held ++ byte ∷ []) rest
feed_byte end held rest byte is = rw is refl

pub byte_line : (server : Server) (before after_it : Option (List Exchange)) (old new : Option (List ℕ)) (end : InputEnd)
    (held kept rest : List ℕ) (byte : ℕ) (so_far : status.Status) (course : Course) → (byte == 10) ≡ true → kept ≡ []
    → ((next : status.Status → Talk) → Comes server before after_it old new (line_said server.client.url held so_far (prompted next)) next course)
    → Comes server before after_it old new (heard_said server.client.url end (lines_from end held (byte ∷ rest)) so_far)
    (heard_said server.client.url end (lines_from end kept rest)) course
byte_line server before after_it old new end held kept rest byte so_far course is none come =
    rw (feed_line end held rest byte is, none) (come (heard_said server.client.url end (lines_from end [] rest)))

pub byte_kept : (server : Server) (told : Option (List Exchange)) (written : Option (List ℕ)) (end : InputEnd)
    (held kept rest : List ℕ) (byte : ℕ) (so_far : status.Status) → (byte == 10) ≡ false → kept ≡ held ++ byte ∷ []
    → Goes server told told written written (heard_said server.client.url end (lines_from end held (byte ∷ rest)) so_far)
    (heard_said server.client.url end (lines_from end kept rest) so_far)
byte_kept server told written end held kept rest byte so_far is more =
    rw (feed_byte end held rest byte is, more)
    (nothing_done server told written (heard_said server.client.url end (lines_from end (held ++ byte ∷ []) rest) so_far))

-- the next byte came to its course, after those before
pub bytes_come : (server : Server) (before mid after_it : Option (List Exchange)) (old now new : Option (List ℕ)) (end : InputEnd)
    (talk : Talk) (held kept left following rest : List ℕ) (byte : ℕ) (so_far : status.Status) (course : Course)
    → Goes server before mid old now talk (heard_said server.client.url end (lines_from end held (left ++ rest)) so_far)
    → left ≡ byte ∷ following
    → ((e : InputEnd) (r : List ℕ) → Comes server mid after_it now new
    (heard_said server.client.url e (lines_from e held (byte ∷ r)) so_far) (heard_said server.client.url e (lines_from e kept r)) course)
    → Comes server before after_it old new talk (heard_said server.client.url end (lines_from end kept (following ++ rest))) course
bytes_come server before mid after_it old now new end talk held kept left following rest byte so_far course goes is come =
    goes_comes server before mid after_it old now new talk
    (heard_said server.client.url end (lines_from end held (byte ∷ following ++ rest)) so_far)
    (heard_said server.client.url end (lines_from end kept (following ++ rest))) course
    (subst (λ (l : List ℕ). Goes server before mid old now talk (heard_said server.client.url end (lines_from end held (l ++ rest)) so_far))
    is goes)
    (come end (following ++ rest))

-- the first byte of a slice came to its course, and it goes on
pub bytes_on : (server : Server) (before mid after_it : Option (List Exchange)) (old now new : Option (List ℕ)) (end : InputEnd)
    (talk : Talk) (held kept left rest : List ℕ) (byte : ℕ) (so_far following_on : status.Status) (course : Course)
    → 1 ≤ length left → byte ≡ get_or left 0 0
    → Goes server before mid old now talk (heard_said server.client.url end (lines_from end held (left ++ rest)) so_far)
    → ((e : InputEnd) (r : List ℕ) → Comes server mid after_it now new
    (heard_said server.client.url e (lines_from e held (byte ∷ r)) so_far) (heard_said server.client.url e (lines_from e kept r)) course)
    → course ≡ On following_on
    → Goes server before after_it old new talk
    (heard_said server.client.url end (lines_from end kept (rest_of left ++ rest)) following_on)
bytes_on server before mid after_it old now new end talk held kept left rest byte so_far following_on course some first goes come is =
    went_on server before after_it old new talk (heard_said server.client.url end (lines_from end kept (rest_of left ++ rest))) course
    following_on is
    (bytes_come server before mid after_it old now new end talk held kept left (rest_of left) rest byte so_far course goes
    (first_and_rest left byte 0 some first) come)

-- it doesn't go on
pub bytes_off : (server : Server) (before mid after_it : Option (List Exchange)) (old now new : Option (List ℕ)) (end : InputEnd)
    (talk : Talk) (held kept left rest : List ℕ) (byte : ℕ) (so_far : status.Status) (course : Course) (next : status.Status → Talk)
    → 1 ≤ length left → byte ≡ get_or left 0 0
    → Goes server before mid old now talk (heard_said server.client.url end (lines_from end held (left ++ rest)) so_far)
    → ((e : InputEnd) (r : List ℕ) → Comes server mid after_it now new
    (heard_said server.client.url e (lines_from e held (byte ∷ r)) so_far) (heard_said server.client.url e (lines_from e kept r)) course)
    → ((following_on : status.Status) → course ≢ On following_on) → Comes server before after_it old new talk next course
bytes_off server before mid after_it old now new end talk held kept left rest byte so_far course next some first goes come off =
    comes_off server before after_it old new talk (heard_said server.client.url end (lines_from end kept (rest_of left ++ rest))) next
    course off
    (bytes_come server before mid after_it old now new end talk held kept left (rest_of left) rest byte so_far course goes
    (first_and_rest left byte 0 some first) come)

-- ---- the end of the input

pub bare_end : (server : Server) (told : Option (List Exchange)) (written : Option (List ℕ)) (held : List ℕ)
    (so_far : status.Status) → length held ≡ 0
    → Goes server told told written written (heard_said server.client.url Whole (last_line Whole held) so_far) (stops so_far)
bare_end server told written [] so_far none = nothing_done server told written (stops so_far)
bare_end server told written (byte ∷ held) so_far none = absurd (omega (arith, none))

pub line_end : (server : Server) (before after_it : Option (List Exchange)) (old new : Option (List ℕ)) (held : List ℕ)
    (so_far : status.Status) (course : Course) → 0 < length held
    → ((next : status.Status → Talk) → Comes server before after_it old new (line_said server.client.url held so_far (prompted next)) next course)
    → Comes server before after_it old new (heard_said server.client.url Whole (last_line Whole held) so_far) stops course
line_end server before after_it old new [] so_far course some come = absurd (omega (arith, some))
line_end server before after_it old new (byte ∷ held) so_far course some come = come (heard_said server.client.url Whole [])
