-- Each step of the board keeps its rule.
use Rattle.std.proofs.Common.{◌≡◌, ◌≢◌, ℕ, zero, suc, ◌+◌, ◌<◌, List, [], ◌∷◌, ◌++◌, length, fold, set, sym, refl, ap, ◌∙◌, subst, arith, length-append}
use mathlib.Core.Option.{some-ne-none}
use Rattle.crossbeam_utils.specs.Register.{Admits, Turns, TurnsAt}
use Rattle.sv_board.proofs.Fronts.{front_none, front_same, front_more}
use Rattle.sv_board.proofs.Passes.{each_set, each_more}
use Rattle.sv_board.specs.Board.{after, board}
use Rattle.sv_board.specs.BoardRule.{BoardRule, Knows}
use Rattle.sv_board.specs.Roles.{Reads, Shows, seen_in, writing}
use Rattle.sv_board.specs.declared.role.Role.{Role}
use Rattle.sv_board.specs.declared.role.Role.TheVariants.{Reading, Writing}
use Rattle.sv_board.specs.declared.row.Report.{Report}
use Rattle.sv_board.specs.declared.row.Row.{Row}
use Rattle.sv_board.specs.declared.shown.Shown.{Shown}

-- the rows after one report more
pub board-more : (reports : List Report) (r : Report) → board (reports ++ r ∷ []) ≡ after (board reports) r
board-more reports r = go [] reports
  where
    go : (rows : List Row) (xs : List Report) → fold after rows (xs ++ r ∷ []) ≡ after (fold after rows xs) r
    go rows [] = refl
    go rows (x ∷ xs) = go (after rows x) xs

-- nothing is shown, and no pass has seen a report
pub opened : (shown : Shown) → shown.rows.items ≡ [] → shown.count ≡ 0 → BoardRule shown (Reading [] ∷ [])
opened shown rows count = record {
  reports = [];
  writer = 0;
  shows = (rows, count);
  each = each_more (Knows [] 0) [] (Reading []) (λ j. front_same []) (λ j u at. absurd (some-ne-none u (sym at)));
}

-- a reader comes
pub admits : Admits BoardRule (Reading [])
admits shown roles rule = record {
  reports = rule.reports;
  writer = rule.writer;
  shows = rule.shows;
  each = each_more (Knows rule.reports rule.writer) roles (Reading []) (λ j. front_none rule.reports) rule.each;
}

-- a reader takes what is shown
reads_seen : (pass : ℕ) (seen : List Report) → Turns BoardRule pass (Reading seen) (λ x. x) (λ role old new next. Reads role next old)
reads_seen pass seen shown roles rule at = let all = rule.reports in (
  Reading all,
  record {
    reports = all;
    writer = rule.writer;
    shows = rule.shows;
    each = each_set (Knows all rule.writer) roles pass (Reading all) (front_same all) (λ j u other e. rule.each j u e);
  },
  (refl, rule.each pass (Reading seen) at, rule.shows),
)

pub reads : (pass : ℕ) (role : Role) → role ≡ Reading (seen_in role) → Turns BoardRule pass role (λ x. x) (λ role old new next. Reads role next old)
reads pass role is = subst (λ (u : Role). Turns BoardRule pass u (λ x. x) (λ role old new next. Reads role next old)) (sym is) (reads_seen pass (seen_in role))

-- a report is published: no other pass is the writer's

others_keep : (reports : List Report) (r : Report) (writer pass j : ℕ) (u : Role) → (0 < length reports → pass ≡ writer) → j ≢ pass → Knows reports writer j u → Knows (reports ++ r ∷ []) pass j u
others_keep reports r writer pass j (Reading seen) mine other knows = front_more seen reports r knows
others_keep reports r writer pass j (Writing all) mine other knows = absurd (other (knows.0 ∙ sym (mine knows.2)))

adds : (pass : ℕ) (v : Role) (x y : Shown) (r : Report) (roles : List Role) (rule : BoardRule x roles) → seen_in v ≡ rule.reports → (0 < length rule.reports → pass ≡ rule.writer)
    → y.rows.items ≡ after x.rows.items r → y.count ≡ x.count + 1 → (w : Role) × BoardRule y (set roles pass w) × (w ≡ Writing (seen_in v ++ r ∷ []))
adds pass v x y r roles rule all mine rows count = let more = rule.reports ++ r ∷ [] in (
  Writing more,
  record {
    reports = more;
    writer = pass;
    shows = (rows ∙ ap (λ (l : List Row). after l r) rule.shows.0 ∙ sym (board-more rule.reports r), (let n = rule.shows.1 in let l = length-append rule.reports (r ∷ []) in omega arith));
    each = each_set (Knows more pass) roles pass (Writing more) (refl, refl, (let l = length-append rule.reports (r ∷ []) in omega arith)) (λ j u other e. others_keep rule.reports r rule.writer pass j u mine other (rule.each j u e));
  },
  ap (λ (l : List Report). Writing (l ++ r ∷ [])) (sym all),
)

none_of : (xs : List Report) → length xs ≡ 0 → xs ≡ []
none_of [] is = refl
none_of (x ∷ xs) is = absurd (omega arith)

publishes_at : (pass n : ℕ) (seen : List Report) (x y : Shown) (r : Report) → x.count ≡ n → y.rows.items ≡ after x.rows.items r → y.count ≡ x.count + 1
    → TurnsAt BoardRule pass (writing n seen) x y (λ v old new w. w ≡ Writing (seen_in v ++ r ∷ []))
publishes_at pass zero seen x y r is rows count roles rule at = let n = rule.shows.1 in let none = none_of rule.reports (omega arith) in
    adds pass (Reading []) x y r roles rule (sym none) (λ some_report. absurd (let z = ap length none in omega arith)) rows count
publishes_at pass (suc n) seen x y r is rows count roles rule at = let mine = rule.each pass (Writing seen) at in
    adds pass (Writing seen) x y r roles rule mine.1 (λ _. mine.0) rows count

pub publishes : (pass : ℕ) (v : Role) (x y : Shown) (r : Report) → v ≡ writing x.count (seen_in v) → y.rows.items ≡ after x.rows.items r → y.count ≡ x.count + 1
    → TurnsAt BoardRule pass v x y (λ v old new w. w ≡ Writing (seen_in v ++ r ∷ []))
publishes pass v x y r is rows count = subst (λ (u : Role). TurnsAt BoardRule pass u x y (λ v old new w. w ≡ Writing (seen_in v ++ r ∷ []))) (sym is) (publishes_at pass x.count (seen_in v) x y r refl rows count)

-- what is shown after one report more
pub shows_more : (x y : Shown) (reports : List Report) (r : Report) → Shows x reports → y.rows.items ≡ after x.rows.items r → y.count ≡ x.count + 1 → Shows y (reports ++ r ∷ [])
shows_more x y reports r shows rows count = (
  rows ∙ ap (λ (l : List Row). after l r) shows.0 ∙ sym (board-more reports r),
  (let n = shows.1 in let l = length-append reports (r ∷ []) in omega arith),
)

-- the writer's role after a report
pub writes_on : (n m : ℕ) (reports : List Report) → n ≡ m + 1 → Writing reports ≡ writing n reports
writes_on zero m reports more = absurd (omega arith)
writes_on (suc n) m reports more = refl
