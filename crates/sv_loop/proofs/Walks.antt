-- A list of lines with one more.
use Rattle.std.proofs.Common.{◌≡◌, List, [], ◌∷◌, ◌++◌, ◌≤◌, length, refl, sym, ap, ◌∙◌, append_assoc, append-nil}
use Rattle.std.proofs.lemmas.Grind.{flat_map-append}
use Rattle.sv_journal.specs.JournalLine.{order_line}
use Rattle.sv_journal.specs.Limits.{line_limit}
use Rattle.sv_judge.specs.JournalPlaces.{Line, line_text, FitsLine, Stage, Verdict, judged, Walked, behind, walks_on, walked, journal_text, order_text, AllFit}
use Rattle.sv_judge.specs.JournalPlaces.Verdict.{Stands, BadLine, NotAccepted, NotConfigured}
use Rattle.sv_judge.specs.JournalPlaces.Walked.{Reaches, Stops}
use Rattle.sv_out.specs.declared.order.Order.{Order}

pub order_text_append : (one other : List Order) → order_text (one ++ other) ≡ order_text one ++ order_text other
order_text_append one other = flat_map-append (λ (o : Order). order_line o ++ 10 ∷ []) one other

pub journal_text_more : (lines : List Line) (line : Line) → journal_text (lines ++ line ∷ []) ≡ journal_text lines ++ (line_text line ++ 10 ∷ [])
journal_text_more lines line =
    flat_map-append (λ (l : Line). line_text l ++ 10 ∷ []) lines (line ∷ [])
    ∙ ap (λ rest. journal_text lines ++ rest) (append-nil (line_text line ++ 10 ∷ []))

pub all_fit_more : (lines : List Line) (line : Line) → AllFit lines → FitsLine line → length (line_text line) ≤ line_limit → AllFit (lines ++ line ∷ [])
all_fit_more [] line all fits short = (fits, short, tt)
all_fit_more (x ∷ xs) line all fits short = (all.0, all.1, all_fit_more xs line all.2 fits short)

behind_more : (os : List Order) (one other : Walked) (to next : Stage) (given more : List Order)
    → ((g : List Order) → one ≡ Reaches to g → other ≡ Reaches next (g ++ more))
    → behind os one ≡ Reaches to given → behind os other ≡ Reaches next (given ++ more)
behind_more os (Reaches at g) other to next given more later e =
    let there : at ≡ to = cc in
    let all : os ++ g ≡ given = cc in
    let rest : other ≡ Reaches next (g ++ more) = later g (rw there refl) in
    rw (rest, ← all) (ap (λ orders. Reaches next orders) (sym (append_assoc os g more)))
behind_more os Stops other to next given more later e = cc

step_more : (verdict : Verdict) (onward onward_more : Stage → Walked) (to next : Stage) (given more : List Order)
    → ((n : Stage) (g : List Order) → onward n ≡ Reaches to g → onward_more n ≡ Reaches next (g ++ more))
    → walks_on verdict onward ≡ Reaches to given
    → walks_on verdict onward_more ≡ Reaches next (given ++ more)
step_more (Stands n os) onward onward_more to next given more later e =
    behind_more os (onward n) (onward_more n) to next given more (later n) e
step_more BadLine onward onward_more to next given more later e = cc
step_more NotAccepted onward onward_more to next given more later e = cc
step_more (NotConfigured fault) onward onward_more to next given more later e = cc

last_step : (at to next : Stage) (line : Line) (given more : List Order)
    → Reaches at [] ≡ Reaches to given → judged to line ≡ Stands next more → walked at (line ∷ []) ≡ Reaches next (given ++ more)
last_step at to next line given more e stands =
    let there : at ≡ to = cc in
    let none : given ≡ [] = cc in
    rw (there, none, stands) (ap (λ orders. Reaches next orders) (append-nil more))

pub walked_more : (at : Stage) (lines : List Line) (line : Line) (to next : Stage) (given more : List Order)
    → walked at lines ≡ Reaches to given → judged to line ≡ Stands next more → walked at (lines ++ line ∷ []) ≡ Reaches next (given ++ more)
walked_more at [] line to next given more e stands = last_step at to next line given more e stands
walked_more at (x ∷ xs) line to next given more e stands =
    step_more (judged at x) (λ n. walked n xs) (λ n. walked n (xs ++ line ∷ [])) to next given more
    (λ n g reaches. walked_more n xs line to next g more reaches stands) e
