-- What is said where there is no server to ask.
use Rattle.std.specs.Prelude.{◌++◌, ◌∷◌, ℕ, List, [], codes}
use Rattle.sv_base.specs.Ascii.{line_feed}
use Rattle.sv_commands.specs.declared.status.Status.TheVariants as status
use Rattle.sv_sections.specs.FaultTexts.{fault_text}
use Rattle.sv_ctl.specs.declared.talk.course.Course.TheVariants.{On, Lost, NoMemory}
use Rattle.sv_ctl.specs.declared.refusal.Refusal.{Refusal}
use Rattle.sv_ctl.specs.declared.refusal.Refusal.TheVariants.{Words, Missing, Conf, Unreadable}
use Rattle.sv_ctl.specs.declared.refusal.Refusal.TheVariants.{OutOfMemory}
use Rattle.sv_ctl.specs.declared.talk.told.Told.{Told}

-- a line of these words and this name
abbrev pub line_with : List ℕ → List ℕ → List ℕ
line_with words name = words ++ name ++ line_feed ∷ []

-- a line with which the words are refused
abbrev pub refused : List ℕ → Told
refused line = record { text = line; course = On status.Refused }

-- the usage
abbrev pub usage : List ℕ
usage = codes "Error: usage: supervisorctl [-c FILE] [-s URL] [-u USER] [-p PASSWORD] COMMAND\n"

-- what is said of a refusal
abbrev pub refusal_told : Refusal → Told
refusal_told Words = refused usage
refusal_told (Missing file) = refused (line_with (codes "Error: no file ") file)
refusal_told (Conf fault) = refused (line_with (codes "Error: conf ") (fault_text fault))
refusal_told (Unreadable name) =
    record { text = line_with (codes "Error: cannot read ") name; course = Lost }
refusal_told OutOfMemory = record { text = []; course = NoMemory }
