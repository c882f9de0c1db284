-- What the table of a child makes of its tries: how many starts there were since it was last settled.
use Rattle.std.proofs.Common.{arith, ◌≡◌, ◌≤◌, ◌+◌, ℕ, zero, List, [], ◌∷◌, ◌++◌, Bool, true, false, ◌&&◌, Option, Some, None, refl, subst, sym, ap, ◌∙◌, if◌then◌else◌}
use Rattle.std.specs.Prelude.{min}
use Rattle.std.proofs.Math.Nat.{min-eq_left}
use Rattle.std.proofs.lemmas.Bool.{ltb-false}
use Rattle.sv_base.specs.declared.spec.Spec.{Spec}
use Rattle.sv_base.specs.declared.state.Mood.{Mood}
use Rattle.sv_base.specs.declared.state.State.{State}
use Rattle.sv_base.specs.declared.state.State.TheVariants.{Stopped, Starting, Running, Backoff, Stopping, Exited, Fatal, Unknown}
use Rattle.sv_child.specs.ChildTable.{Stimulus, row}
use Rattle.sv_child.specs.ChildTable.Stimulus.{Start, Stop, Spawned, Spawn_failed, Ended, Time}
use Rattle.sv_child.specs.Moves.{Answer, backs_off, entered, exited, exited_too_quickly, goes, has_tired, is_first_start, is_killed, is_reached, is_running, leads_over, nothing, one_try_more, restarts, starts}
use Rattle.sv_child.specs.declared.child.Child.{Child}
use Rattle.sv_child.specs.declared.step.Edge.{Edge}
use Rattle.sv_core_laws.specs.Stretch.{IsStretch, StretchesAreShort, is_trying, start_by, starts_in}

-- ---- starts among edges

-- the starts since the last edge that ended elsewhere, with so many before
abbrev pub count_by : State → ℕ → ℕ
count_by Starting n = n + 1
count_by Backoff n = n
count_by state n = 0

abbrev pub begun : ℕ → List (Option Edge) → ℕ
begun n [] = n
begun n (None ∷ edges) = begun n edges
begun n (Some edge ∷ edges) = begun (count_by edge.to n) edges

-- at no edge there are more
abbrev pub AreFew : ℕ → ℕ → List (Option Edge) → Type 0
AreFew most n [] = Unit {0}
AreFew most n (None ∷ edges) = AreFew most n edges
AreFew most n (Some edge ∷ edges) = (count_by edge.to n ≤ most) × AreFew most (count_by edge.to n) edges

pub begun_on : (n : ℕ) (one other : List (Option Edge)) → begun n (one ++ other) ≡ begun (begun n one) other
begun_on n [] other = refl
begun_on n (None ∷ one) other = begun_on n one other
begun_on n (Some edge ∷ one) other = begun_on (count_by edge.to n) one other

pub few_on : (most n : ℕ) (one other : List (Option Edge)) → AreFew most n one → AreFew most (begun n one) other → AreFew most n (one ++ other)
few_on most n [] other a b = b
few_on most n (None ∷ one) other a b = few_on most n one other a b
few_on most n (Some edge ∷ one) other a b = (a.0, few_on most (count_by edge.to n) one other a.1 b)

few_behind : (most n : ℕ) (one other : List (Option Edge)) → AreFew most n (one ++ other) → AreFew most (begun n one) other
few_behind most n [] other few = few
few_behind most n (None ∷ one) other few = few_behind most n one other few
few_behind most n (Some edge ∷ one) other few = few_behind most (count_by edge.to n) one other few.1

-- a stretch goes on counting
stretch_counts : (most n : ℕ) (stretch behind : List (Option Edge)) → IsStretch stretch → AreFew most n (stretch ++ behind)
    → n ≤ most → n + starts_in stretch ≤ most
stretch_counts most n [] behind is few within = omega arith
stretch_counts most n (None ∷ stretch) behind is few within = stretch_counts most n stretch behind is few within
stretch_counts most n (Some edge ∷ stretch) behind is few within =
    by_state edge.to is.0 few.0 (λ m below. stretch_counts most m stretch behind is.1) few.1 where
      by_state : (to : State) → is_trying to ≡ true → count_by to n ≤ most
          → ((m : ℕ) → m ≤ most → AreFew most m (stretch ++ behind) → m ≤ most → m + starts_in stretch ≤ most)
          → AreFew most (count_by to n) (stretch ++ behind) → n + (start_by to + starts_in stretch) ≤ most
      by_state Starting trying below counts left =
          let rest : (n + 1) + starts_in stretch ≤ most = counts (n + 1) below left below in omega arith
      by_state Backoff trying below counts left =
          let rest : n + starts_in stretch ≤ most = counts n below left below in omega arith
      by_state Stopped trying below counts left = cc
      by_state Running trying below counts left = cc
      by_state Stopping trying below counts left = cc
      by_state Exited trying below counts left = cc
      by_state Fatal trying below counts left = cc
      by_state Unknown trying below counts left = cc

begun_within : (most n : ℕ) (edges : List (Option Edge)) → AreFew most n edges → n ≤ most → begun n edges ≤ most
begun_within most n [] few within = within
begun_within most n (None ∷ edges) few within = begun_within most n edges few within
begun_within most n (Some edge ∷ edges) few within = begun_within most (count_by edge.to n) edges few.1 few.0

few_before : (most n : ℕ) (one other : List (Option Edge)) → AreFew most n (one ++ other) → AreFew most n one
few_before most n [] other few = tt
few_before most n (None ∷ one) other few = few_before most n one other few
few_before most n (Some edge ∷ one) other few = (few.0, few_before most (count_by edge.to n) one other few.1)

pub short : (retries : ℕ) (edges : List (Option Edge)) → AreFew (retries + 1) 0 edges → StretchesAreShort retries edges
short retries edges few before stretch behind is trying =
    let parts : AreFew (retries + 1) 0 (before ++ (stretch ++ behind)) = subst (λ (es : List (Option Edge)). AreFew (retries + 1) 0 es) is few in
    let before_within : begun 0 before ≤ retries + 1 =
    begun_within (retries + 1) 0 before (few_before (retries + 1) 0 before (stretch ++ behind) parts) (omega arith) in
    let counted : begun 0 before + starts_in stretch ≤ retries + 1 =
    stretch_counts (retries + 1) (begun 0 before) stretch behind trying (few_behind (retries + 1) 0 before (stretch ++ behind) parts) before_within in
    omega arith

-- ---- a child's tries

-- the starts since a child was settled, by its state and its tries
abbrev pub tried : State → ℕ → ℕ
tried Starting tries = tries + 1
tried Backoff tries = tries
tried state tries = 0

-- tries fit a state: only a child that is tried has some, and no more than are tried again
abbrev pub FitBy : ℕ → State → ℕ → Type 0
FitBy retries Starting tries = tries ≤ retries
FitBy retries Backoff tries = tries ≤ retries + 1
FitBy retries Stopping tries = Unit {0}
FitBy retries state tries = tries ≡ 0

-- these edges lead from one state and so many tries to another
abbrev pub Leads : ℕ → State → ℕ → List (Option Edge) → State → ℕ → Type 0
Leads retries from tries edges to later = FitBy retries from tries
    → FitBy retries to later × AreFew (retries + 1) (tried from tries) edges × (tried to later ≡ begun (tried from tries) edges)

pub leads_on : (retries : ℕ) (from by to : State) (tries later last : ℕ) (one other : List (Option Edge)) → Leads retries from tries one by later
    → Leads retries by later other to last → Leads retries from tries (one ++ other) to last
leads_on retries from by to tries later last one other a b fits =
    let first = a fits in
    let second = b first.0 in (
      second.0,
      few_on (retries + 1) (tried from tries) one other first.1
          (subst (λ (n : ℕ). AreFew (retries + 1) n other) first.2 second.1),
      second.2 ∙ ap (λ (n : ℕ). begun n other) first.2 ∙ sym (begun_on (tried from tries) one other),
    )

-- ---- the rows of the table

abbrev LeadsTo : ℕ → State → ℕ → Answer → Type 0
LeadsTo retries from tries answer = Leads retries from tries answer.step.edges answer.child.state answer.child.tries

leads_if : (retries : ℕ) (from : State) (tries : ℕ) (b : Bool) (x y : Answer) → LeadsTo retries from tries x → (b ≡ false → LeadsTo retries from tries y)
    → LeadsTo retries from tries (if b then x else y)
leads_if retries from tries true x y one other = one
leads_if retries from tries false x y one other = other refl

-- no edge
stays_so : (retries : ℕ) (state : State) (child : Child) → child.state ≡ state
    → Leads retries state child.tries (None ∷ None ∷ []) child.state child.tries
stays_so retries state child is fits =
    subst (λ (to : State). FitBy retries to child.tries × Unit {0} × (tried to child.tries ≡ tried state child.tries)) (sym is) (fits, tt, refl)

-- a settled child is started
first_start : (retries tries : ℕ) → tries ≡ 0 → (tries ≤ retries) × ((1 ≤ retries + 1) × Unit {0}) × (tries + 1 ≡ 1)
first_start retries tries none = (omega arith, (omega arith, tt), omega arith)

-- a start failed
fails_once : (retries tries : ℕ) → retries ≤ 1000000 → tries ≤ retries
    → (one_try_more tries ≤ retries + 1) × ((tries + 1 ≤ retries + 1) × Unit {0}) × (one_try_more tries ≡ tries + 1)
fails_once retries tries few fits =
    let more : one_try_more tries ≡ tries + 1 = min_of (tries + 1) 1000001 (omega arith) in
    (subst (λ (n : ℕ). n ≤ retries + 1) (sym more) (omega arith), (omega arith, tt), more) where
      min_of : (a b : ℕ) → a ≤ b → min a b ≡ a
      min_of a b below = min-eq_left below

-- it is started again
next_start : (spec : Spec) (child : Child) → has_tired spec child ≡ false
    → (child.tries ≤ spec.startretries) × ((child.tries + 1 ≤ spec.startretries + 1) × Unit {0}) × (child.tries + 1 ≡ child.tries + 1)
next_start spec child tired =
    let within : child.tries ≤ spec.startretries = ltb-false spec.startretries child.tries tired in (within, (omega arith, tt), refl)

settles : (retries : ℕ) → (zero ≡ zero) × ((0 ≤ retries + 1) × Unit {0}) × (zero ≡ zero)
settles retries = (refl, (omega arith, tt), refl)

pub row_leads : (stimulus : Stimulus) (state : State) (spec : Spec) (child : Child) (mood : Mood) (now : ℕ) → child.state ≡ state
    → spec.startretries ≤ 1000000 → LeadsTo spec.startretries state child.tries (row stimulus state spec child mood now)
row_leads Start Stopped spec child mood now e few = first_start spec.startretries child.tries
row_leads Start Exited spec child mood now e few = first_start spec.startretries child.tries
row_leads Start Fatal spec child mood now e few = first_start spec.startretries child.tries
row_leads Stop Starting spec child mood now e few = λ fits. (tt, (omega arith, tt), refl)
row_leads Stop Running spec child mood now e few = λ fits. (tt, (omega arith, tt), refl)
row_leads Stop Backoff spec child mood now e few = λ fits. settles spec.startretries
row_leads (Spawned run pid) Starting spec child mood now e few = stays_so spec.startretries Starting child e
row_leads (Spawn_failed fault) Starting spec child mood now e few = fails_once spec.startretries child.tries few
row_leads (Ended how) Starting spec child mood now e few =
    leads_if spec.startretries Starting child.tries (is_reached child.deadline now) (record {
      child = entered (entered (exited child how now) Running) Exited;
      step = leads_over Starting Running Exited;
    }) (backs_off (exited child how now) exited_too_quickly now)
    (λ fits. (refl, (omega arith, (omega arith, tt)), refl)) (λ late. fails_once spec.startretries child.tries few)
row_leads (Ended how) Running spec child mood now e few = λ fits. settles spec.startretries
row_leads (Ended how) Stopping spec child mood now e few = λ fits. settles spec.startretries
row_leads Time Stopped spec child mood now e few =
    leads_if spec.startretries Stopped child.tries (is_first_start spec child && is_running mood) (starts Stopped child now) (nothing child)
    (first_start spec.startretries child.tries) (λ other. stays_so spec.startretries Stopped child e)
row_leads Time Starting spec child mood now e few =
    leads_if spec.startretries Starting child.tries (is_reached child.deadline now) (goes Starting child Running) (nothing child)
    (λ fits. settles spec.startretries) (λ other. stays_so spec.startretries Starting child e)
row_leads Time Backoff spec child mood now e few =
    leads_if spec.startretries Backoff child.tries (has_tired spec child) (goes Backoff child Fatal)
    (if is_reached child.deadline now && is_running mood then starts Backoff child now else nothing child) (λ fits. settles spec.startretries)
    (λ tired.
    leads_if spec.startretries Backoff child.tries (is_reached child.deadline now && is_running mood) (starts Backoff child now) (nothing child)
    (λ fits. next_start spec child tired) (λ other. stays_so spec.startretries Backoff child e))
row_leads Time Stopping spec child mood now e few =
    leads_if spec.startretries Stopping child.tries (is_reached child.deadline now) (is_killed spec child now) (nothing child)
    (stays_so spec.startretries Stopping child e) (λ other. stays_so spec.startretries Stopping child e)
row_leads Time Exited spec child mood now e few =
    leads_if spec.startretries Exited child.tries (is_running mood && restarts spec child) (starts Exited child now) (nothing child)
    (first_start spec.startretries child.tries) (λ other. stays_so spec.startretries Exited child e)
row_leads stimulus state spec child mood now e few = stays_so spec.startretries state child e
