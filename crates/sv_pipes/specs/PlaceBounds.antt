-- What a place in a talk says of the bytes that are kept there.
use Rattle.std.specs.Prelude.{ℕ}
use Rattle.sv_pipes.specs.declared.talk.TalkProgress.{TalkProgress}
use Rattle.sv_pipes.specs.declared.talk.TalkProgress.TheVariants as place

-- how many bytes of a word were said
abbrev pub word_in : TalkProgress → ℕ
word_in (place.Greeting count) = count
word_in (place.Word count) = count
word_in at = 0

-- how many digits of a result's length were said
abbrev pub digits_in : TalkProgress → ℕ
digits_in (place.Length count number) = count
digits_in (place.Body count number) = count
digits_in at = 0

-- the number that these digits write
abbrev pub length_in : TalkProgress → ℕ
length_in (place.Length count number) = number
length_in (place.Body count number) = number
length_in at = 0

-- fewer bytes than this are kept: a result that isn't whole, and nothing elsewhere
abbrev pub room_in : TalkProgress → ℕ
room_in (place.Body count number) = number
room_in at = 1
