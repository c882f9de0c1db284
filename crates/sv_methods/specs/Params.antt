-- What a method takes.
use Rattle.std.specs.Prelude.{ℕ, ℤ, List, Bool, true, Option, Some, None, option_and_then}
use Rattle.sv_xmlcall.specs.Trees.{Tree, Trees, integer, truth, text, no_tree, tree}

-- a value, where nothing follows it
abbrev pub ended : {A : Type 0} → A → Trees → Option A
ended value no_tree = Some value
ended value (tree first rest) = None

-- a text that comes first, and what follows it
abbrev pub text_first : Trees → Option (List ℕ × Trees)
text_first (tree (text content) rest) = Some (content, rest)
text_first params = None

-- an integer that comes first, and what follows it
abbrev pub number_first : Trees → Option (ℤ × Trees)
number_first (tree (integer number) rest) = Some (number, rest)
number_first params = None

-- whether to wait, which may be left out and is then true
abbrev pub wait_in : Trees → Option Bool
wait_in no_tree = Some true
wait_in (tree (truth wait) rest) = ended wait rest
wait_in params = None

-- a text alone
abbrev pub text_in : Trees → Option (List ℕ)
text_in params = option_and_then (λ a. ended a.0 a.1) (text_first params)

-- a text and whether to wait
abbrev pub with_wait : List ℕ → Option Bool → Option (List ℕ × Bool)
with_wait content None = None
with_wait content (Some wait) = Some (content, wait)

-- a text, then whether to wait
abbrev pub text_and_wait_in : Trees → Option (List ℕ × Bool)
text_and_wait_in params = option_and_then (λ a. with_wait a.0 (wait_in a.1)) (text_first params)

-- two texts
abbrev pub texts_in : Trees → Option (List ℕ × List ℕ)
texts_in params =
    option_and_then (λ a. option_and_then (λ b. ended (a.0, b.0) b.1) (text_first a.1))
    (text_first params)

-- two integers
abbrev pub numbers_in : Trees → Option (ℤ × ℤ)
numbers_in params =
    option_and_then (λ a. option_and_then (λ b. ended (a.0, b.0) b.1) (number_first a.1))
    (number_first params)

-- a text and two integers
abbrev pub with_text : List ℕ → Option (ℤ × ℤ) → Option (List ℕ × ℤ × ℤ)
with_text content None = None
with_text content (Some numbers) = Some (content, numbers.0, numbers.1)

-- a text, then two integers
abbrev pub log_in : Trees → Option (List ℕ × ℤ × ℤ)
log_in params = option_and_then (λ a. with_text a.0 (numbers_in a.1)) (text_first params)
