-- What each line makes of what was read before it.
use Rattle.std.specs.Prelude.{◌+◌, ℕ, List, [], ◌∷◌, ◌++◌, Option, Some, None, encode_utf8_all}
use Rattle.std.specs.Prelude.{if◌then◌else◌}
use Rattle.std.specs.List.{fold}
use Rattle.std.specs.Option.{is_some}
use Rattle.std.specs.StrCase.Lower.{str_to_lowercase}
use Rattle.sv_moving.specs.declared.reader.Reader.{Reader}
use Rattle.sv_moving.specs.declared.sections.Section.{Section}
use Rattle.sv_moving.specs.Keys.{place_of_key, with_entry, with_further}
use Rattle.sv_moving.specs.Lines.{LineKind, kind_of}
use Rattle.sv_moving.specs.Lines.LineKind.{Blank, Comment, Further, Opens, Sets, Keyless, Faulty}
use Rattle.sv_moving.specs.Sections.{section_at, place_of_section, with_section, in_section}
use Rattle.sv_moving.specs.Spaces.{indent_of}

-- before the first line of the text of this number, behind the texts that gave these sections
abbrev pub begun : ℕ → List Section → Reader
begun text sections = record {
  sections = sections;
  current = None;
  going = None;
  depth = 0;
  blanks = 0;
  spot = record { text = text; line = 0 };
  headless = None;
  faulty = [];
}

-- one more line was read
abbrev pub counted : Reader → Reader
counted r = record r { spot = record { text = r.spot.text; line = r.spot.line + 1 } }

-- one more blank line, which belongs to the value in hand where a further line follows
abbrev pub with_blank : Reader → Reader
with_blank r = record r { blanks = r.blanks + 1 }

-- a further line of the value in hand, with the blank lines before it
abbrev pub gone_on : Option ℕ → Option ℕ → List ℕ → Reader → Reader
gone_on (Some place) (Some key) line r = record r {
  sections = in_section place (with_further key r.blanks (encode_utf8_all line)) r.sections;
  blanks = 0;
}
gone_on current going line r = r

-- a section opens: the one of that name, if there is one already. No key is in hand
abbrev pub opened : List ℕ → Reader → Reader
opened name r = record r {
  sections = with_section (encode_utf8_all name) r.spot r.sections;
  current = Some (place_of_section (encode_utf8_all name) r.sections);
  going = None;
}

-- the key as it is kept: in lower case
abbrev pub key_kept : List ℕ → List ℕ
key_kept key = str_to_lowercase (encode_utf8_all key)

-- a key of the section at this place, which is then in hand
abbrev pub set_at : ℕ → List ℕ → List ℕ → Reader → Reader
set_at place key value r = record r {
  sections = in_section place
      (with_entry (record { key = key; value = encode_utf8_all value; spot = r.spot })) r.sections;
  going = Some (place_of_key key (section_at place r.sections).keys);
  blanks = 0;
}

-- a line before any section ends the reading
abbrev pub without_header : Reader → Reader
without_header r = record r { headless = Some r.spot.line }

-- a key of the open section
abbrev pub set_in : Option ℕ → List ℕ → List ℕ → Reader → Reader
set_in (Some place) key value r = set_at place key value r
set_in None key value r = without_header r

-- a faulty line, which the reading passes over; the key in hand stays
abbrev pub faulted : Option ℕ → Reader → Reader
faulted (Some place) r = record r { faulty = r.faulty ++ r.spot.line ∷ [] }
faulted None r = without_header r

-- a faulty line after which no key is in hand
abbrev pub keyless : Option ℕ → Reader → Reader
keyless current r = record (faulted current r) { going = None }

-- a line that is no further line sets the depth
abbrev pub at_depth : ℕ → Reader → Reader
at_depth depth r = record r { depth = depth }

-- what a line of this kind and this indentation makes of what was read before it
abbrev pub after_kind : LineKind → ℕ → Reader → Reader
after_kind Blank indent r = with_blank r
after_kind Comment indent r = r
after_kind (Further line) indent r = gone_on r.current r.going line r
after_kind (Opens name) indent r = opened name (at_depth indent r)
after_kind (Sets key value) indent r = set_in r.current (key_kept key) value (at_depth indent r)
after_kind Keyless indent r = keyless r.current (at_depth indent r)
after_kind Faulty indent r = faulted r.current (at_depth indent r)

-- what a line makes of what was read before it; nothing is looked at once the reading has ended
abbrev pub after_line : Reader → List ℕ → Reader
after_line r line =
    if is_some r.headless then r
    else after_kind (kind_of (is_some r.going) r.depth line) (indent_of line) (counted r)

-- the lines in turn
abbrev pub after_lines : Reader → List (List ℕ) → Reader
after_lines r lines = fold after_line r lines
