-- The words before a program's own: each link is a program of the system that does one thing and becomes what the words behind it
-- name.
use Rattle.std.specs.Prelude.{ℕ, ◌++◌, ◌∷◌, [], List, Option, None, Some, codes}
use Rattle.std.specs.Fmt.{decimal}
use Rattle.sv_processes.specs.declared.chain.Links.{Links}
use Rattle.sv_processes.specs.declared.chain.MaskLink.{MaskLink}
use Rattle.sv_processes.specs.declared.chain.SignalLink.{SignalLink}
use Rattle.sv_processes.specs.declared.chain.UserLink.{UserLink}
use Rattle.sv_processes.specs.declared.chain.UserLink.TheVariants.{Setpriv, Su}

-- signals get their defaults back
abbrev pub signal_words : Option SignalLink → List (List ℕ)
signal_words None = []
signal_words (Some link) = link.tool ∷ (codes "--default-signal=" ++ link.names) ∷ []

-- a session and a group of its own
abbrev pub session_words : Option (List ℕ) → List (List ℕ)
session_words None = []
session_words (Some tool) = tool ∷ codes "--" ∷ []

-- by which a shell becomes what the words behind name
abbrev pub exec_words : List (List ℕ)
exec_words = codes "-c" ∷ codes "exec \"$@\"" ∷ codes "sh" ∷ []

-- the `su` of busybox, which leaves the variables as they are
abbrev pub su_words : List ℕ → List (List ℕ)
su_words tool = tool ∷ codes "-p" ∷ []

-- the shell that it starts
abbrev pub shell_words : List (List ℕ)
shell_words = codes "-s" ∷ codes "/bin/sh" ∷ []

-- a user, its first group and all its groups
abbrev pub user_words : Option UserLink → List (List ℕ)
user_words None = []
user_words (Some (Setpriv tool name group)) =
    tool ∷ (codes "--reuid=" ++ name) ∷ (codes "--regid=" ++ decimal group)
    ∷ codes "--init-groups" ∷ codes "--" ∷ []
user_words (Some (Su tool name)) = su_words tool ++ shell_words ++ name ∷ exec_words

-- a mask of rights
abbrev pub mask_words : Option MaskLink → List (List ℕ)
mask_words None = []
mask_words (Some link) =
    link.tool ∷ codes "-c" ∷ (codes "umask " ++ link.mask ++ codes "; exec \"$@\"")
    ∷ codes "sh" ∷ []

-- what was asked for, in this order
abbrev pub words_before : Links → List (List ℕ)
words_before links =
    signal_words links.signals ++ session_words links.session ++ user_words links.user
    ++ mask_words links.mask
