-- The text of a daemon's journal is that of its lines.
use Rattle.std.proofs.Common.{◌≡◌, ℕ, List, [], ◌∷◌, ◌++◌, Bool, true, false, map, refl, sym, ap, ◌∙◌, append_assoc}
use Rattle.std.proofs.lemmas.Grind.{flat_map-append}
use Rattle.std.specs.List.{flat_map}
use Rattle.std.specs.Prelude.{if◌then◌else◌, nat_lt, codes}
use Rattle.sv_base.specs.declared.config.Host.{Host}
use Rattle.sv_core.specs.MachineState.{Model, accepts, next, orders}
use Rattle.sv_supervise.specs.MainLoop.Journal.{entry, history, orders_text}
use Rattle.sv_logs.specs.Sizes.{Sizes}
use Rattle.sv_journal.specs.JournalLine.{input_line, order_line}
use Rattle.sv_journal.specs.declared.header.Header.{Header}
use Rattle.sv_journal.specs.declared.header.Header.TheVariants as header_is
use Rattle.sv_judge.specs.JournalPlaces.{Line, journal_text, line_text}
use Rattle.sv_judge.specs.JournalPlaces.Line.{Head}
use Rattle.sv_loop.specs.WholeJournal.{Entry, entry_lines, include_lines, journal_lines, size_lines, variable_lines}
use Rattle.sv_loop.specs.WholeJournal.Beginning.{Long}
use Rattle.sv_loop.specs.WholeJournal.Entry.{Told, Given}
use Rattle.sv_out.specs.declared.input.Input.{Input}
use Rattle.sv_out.specs.declared.order.Order.{Order}
use Rattle.sv_supervise.specs.Journal.Header.{env_text, header_text, include_text, size_text, line_text as header_text_line}
use Rattle.sv_supervise.specs.Journal.Lines.{journal_texts}
use Rattle.sv_supervise.specs.Machines.{core_rules}
use Rattle.sv_supervise_laws.specs.Rerun.{entries_of, told_sizes}

text_append : (one other : List Line) → journal_text (one ++ other) ≡ journal_text one ++ journal_text other
text_append one other = flat_map-append (λ (line : Line). line_text line ++ 10 ∷ []) one other

head_text : (header : Header) (lines : List Line) → journal_text (Head header ∷ lines) ≡ header_text_line header ++ journal_text lines
unfolding header_text_line
head_text header lines = refl

variables_text : (variables : List (List ℕ × List ℕ)) (lines : List Line)
    → journal_text (variable_lines variables ++ lines) ≡ flat_map env_text variables ++ journal_text lines
variables_text [] lines = refl
variables_text (variable ∷ more) lines =
    head_text (header_is.Env variable.0 variable.1) (variable_lines more ++ lines)
    ∙ ap (λ (rest : List ℕ). env_text variable ++ rest) (variables_text more lines)
    ∙ sym (append_assoc (env_text variable) (flat_map env_text more) (journal_text lines))

sizes_text : (sizes : Sizes) (lines : List Line)
    → journal_text (size_lines (told_sizes sizes) ++ lines) ≡ flat_map size_text sizes ++ journal_text lines
sizes_text [] lines = refl
sizes_text (known ∷ sizes) lines = by (nat_lt 0 known.1) (sizes_text sizes lines)
  where
    by : (some : Bool) → journal_text (size_lines (told_sizes sizes) ++ lines) ≡ flat_map size_text sizes ++ journal_text lines
        → journal_text (size_lines (if some then known ∷ told_sizes sizes else told_sizes sizes) ++ lines)
        ≡ ((if some then header_text_line (header_is.Size known.0 known.1) else []) ++ flat_map size_text sizes) ++ journal_text lines
    by true rest =
        head_text (header_is.Size known.0 known.1) (size_lines (told_sizes sizes) ++ lines)
        ∙ ap (λ (tail : List ℕ). header_text_line (header_is.Size known.0 known.1) ++ tail) rest
        ∙ sym (append_assoc (header_text_line (header_is.Size known.0 known.1)) (flat_map size_text sizes) (journal_text lines))
    by false rest = rest

includes_text : (included : List (List ℕ × List ℕ)) (lines : List Line)
    → journal_text (include_lines included ++ lines) ≡ flat_map include_text included ++ journal_text lines
includes_text [] lines = refl
includes_text (text ∷ more) lines =
    head_text (header_is.Include text.0 text.1) (include_lines more ++ lines)
    ∙ ap (λ (rest : List ℕ). include_text text ++ rest) (includes_text more lines)
    ∙ sym (append_assoc (include_text text) (flat_map include_text more) (journal_text lines))

-- ---- inputs and orders

given_text : (given : List Order) (entries : List Entry)
    → journal_text (entry_lines (map Given given ++ entries)) ≡ orders_text journal_texts given ++ journal_text (entry_lines entries)
given_text [] entries = refl
given_text (order ∷ given) entries =
    ap (λ (rest : List ℕ). (codes "> " ++ order_line order ++ 10 ∷ []) ++ rest) (given_text given entries)
    ∙ sym (append_assoc (codes "> " ++ order_line order ++ 10 ∷ []) (orders_text journal_texts given) (journal_text (entry_lines entries)))

pub history_text : (m : Model) (inputs : List Input)
    → journal_text (entry_lines (entries_of m inputs)) ≡ history core_rules journal_texts m inputs
history_text m [] = refl
history_text m (i ∷ is) = by (accepts m i) (history_text (next m i) is) (history_text m is)
  where
    by : (accepted : Bool) → journal_text (entry_lines (entries_of (next m i) is)) ≡ history core_rules journal_texts (next m i) is
        → journal_text (entry_lines (entries_of m is)) ≡ history core_rules journal_texts m is
        → journal_text (entry_lines (if accepted then Told i ∷ (map Given (orders m i) ++ entries_of (next m i) is) else entries_of m is))
        ≡ (if accepted then entry journal_texts i (orders m i) ++ history core_rules journal_texts (next m i) is
        else history core_rules journal_texts m is)
    by true goes skips =
        let line = input_line i ++ 10 ∷ [] in
        let told = orders_text journal_texts (orders m i) in
        ap (λ (rest : List ℕ). line ++ rest)
        (given_text (orders m i) (entries_of (next m i) is) ∙ ap (λ (rest : List ℕ). told ++ rest) goes)
        ∙ sym (append_assoc line told (history core_rules journal_texts (next m i) is))
    by false goes skips = skips

-- ---- the whole

pub daemon_text : (host : Host) (sizes : Sizes) (main : List ℕ) (included : List (List ℕ × List ℕ)) (entries : List Entry)
    → journal_text (journal_lines (Long host (told_sizes sizes) main included) entries)
    ≡ header_text host sizes main included ++ journal_text (entry_lines entries)
daemon_text host sizes main included entries =
    let title = header_text_line (header_is.Journal 1) in
    let name = header_text_line (header_is.Host host.name) in
    let here = header_text_line (header_is.Here host.here) in
    let pid = header_text_line (header_is.Pid host.pid) in
    let variables = flat_map env_text host.environment in
    let known = flat_map size_text sizes in
    let conf = header_text_line (header_is.Conf main) in
    let texts = flat_map include_text included in
    let go = header_text_line (header_is.Go host.start) in
    let body = journal_text (entry_lines entries) in
    let behind_go = Head (header_is.Go host.start) ∷ entry_lines entries in
    let behind_conf = Head (header_is.Conf main) ∷ (include_lines included ++ behind_go) in
    let behind_sizes = size_lines (told_sizes sizes) ++ behind_conf in
    let behind_variables = variable_lines host.environment ++ behind_sizes in
    let go_text : journal_text behind_go ≡ go ++ body = head_text (header_is.Go host.start) (entry_lines entries) in
    let conf_text : journal_text behind_conf ≡ conf ++ (texts ++ (go ++ body)) =
    head_text (header_is.Conf main) (include_lines included ++ behind_go)
    ∙ ap (λ (rest : List ℕ). conf ++ rest) (includes_text included behind_go ∙ ap (λ (rest : List ℕ). texts ++ rest) go_text) in
    let size_text_is : journal_text behind_sizes ≡ known ++ (conf ++ (texts ++ (go ++ body))) =
    sizes_text sizes behind_conf ∙ ap (λ (rest : List ℕ). known ++ rest) conf_text in
    let variable_text : journal_text behind_variables ≡ variables ++ (known ++ (conf ++ (texts ++ (go ++ body)))) =
    variables_text host.environment behind_sizes ∙ ap (λ (rest : List ℕ). variables ++ rest) size_text_is in
    let head : journal_text (journal_lines (Long host (told_sizes sizes) main included) entries) ≡ title ++ (name ++ (here ++ (pid ++ journal_text behind_variables))) =
    head_text (header_is.Journal 1) (Head (header_is.Host host.name) ∷ Head (header_is.Here host.here) ∷ Head (header_is.Pid host.pid) ∷ behind_variables)
    ∙ ap (λ (rest : List ℕ). title ++ rest)
    (head_text (header_is.Host host.name) (Head (header_is.Here host.here) ∷ Head (header_is.Pid host.pid) ∷ behind_variables)
    ∙ ap (λ (rest : List ℕ). name ++ rest)
    (head_text (header_is.Here host.here) (Head (header_is.Pid host.pid) ∷ behind_variables)
    ∙ ap (λ (rest : List ℕ). here ++ rest) (head_text (header_is.Pid host.pid) behind_variables))) in
    head ∙ ap (λ (rest : List ℕ). title ++ (name ++ (here ++ (pid ++ rest)))) variable_text
    ∙ sym (shifted title name here pid variables known conf texts go body)
  where
    shifted : (a b c d e f g h i j : List ℕ)
        → (a ++ b ++ c ++ d ++ e ++ f ++ g ++ h ++ i) ++ j ≡ a ++ (b ++ (c ++ (d ++ (e ++ (f ++ (g ++ (h ++ (i ++ j))))))))
    shifted a b c d e f g h i j = simp append_assoc
