-- The bytes of ASCII by their names (RFC 20), where a definition speaks of one alone; a word of
-- them is written as codes "word".
use Rattle.std.specs.Prelude.{ℕ}

-- HT
abbrev pub tab : ℕ
tab = 9

-- LF, the end of a line
abbrev pub line_feed : ℕ
line_feed = 10

-- CR
abbrev pub carriage_return : ℕ
carriage_return = 13

-- SP
abbrev pub space : ℕ
space = 32

-- "
abbrev pub double_quote : ℕ
double_quote = 34

-- #
abbrev pub number_sign : ℕ
number_sign = 35

-- %
abbrev pub percent_sign : ℕ
percent_sign = 37

-- &
abbrev pub ampersand : ℕ
ampersand = 38

-- '
abbrev pub single_quote : ℕ
single_quote = 39

-- (
abbrev pub left_parenthesis : ℕ
left_parenthesis = 40

-- )
abbrev pub right_parenthesis : ℕ
right_parenthesis = 41

-- *
abbrev pub asterisk : ℕ
asterisk = 42

-- +
abbrev pub plus_sign : ℕ
plus_sign = 43

-- ,
abbrev pub comma : ℕ
comma = 44

-- -
abbrev pub hyphen : ℕ
hyphen = 45

-- .
abbrev pub full_stop : ℕ
full_stop = 46

-- /
abbrev pub slash : ℕ
slash = 47

-- 0, after which the other digits come up to 9
abbrev pub digit_zero : ℕ
digit_zero = 48

-- :
abbrev pub colon : ℕ
colon = 58

-- ;
abbrev pub semicolon : ℕ
semicolon = 59

-- <
abbrev pub less_sign : ℕ
less_sign = 60

-- =
abbrev pub equals_sign : ℕ
equals_sign = 61

-- >
abbrev pub greater_sign : ℕ
greater_sign = 62

-- ?
abbrev pub question_mark : ℕ
question_mark = 63

-- [
abbrev pub left_bracket : ℕ
left_bracket = 91

-- \
abbrev pub backslash : ℕ
backslash = 92

-- ]
abbrev pub right_bracket : ℕ
right_bracket = 93

-- _
abbrev pub underscore : ℕ
underscore = 95

-- DEL
abbrev pub delete : ℕ
delete = 127

-- d
abbrev pub letter_d : ℕ
letter_d = 100

-- p
abbrev pub letter_p : ℕ
letter_p = 112

-- s
abbrev pub letter_s : ℕ
letter_s = 115
