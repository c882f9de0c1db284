-- The client's requests that a server takes.
use Rattle.std.specs.Prelude.{◌≡◌, ◌≤◌, ◌<◌, ◌⊎◌, ◌+◌, ◌&&◌, ◌++◌, ◌∷◌, ℕ, List, Bool, true, length}
use Rattle.std.specs.Prelude.{nat_lt}
use Rattle.std.specs.List.{list_all}
use Rattle.base64.specs.GeneralPurpose.{IsBytes}
use Rattle.sv_base.specs.Ascii.{colon}
use Rattle.sv_http.specs.AskTable.{body_limit}
use Rattle.sv_http.specs.Authorization.{is_open, is_password}
use Rattle.sv_http.specs.RequestStream.{head_limit}
use Rattle.sv_http.specs.RequestText.{request_text}
use Rattle.sv_http.specs.declared.guard.Guard.{Guard}

-- a visible byte of ASCII, no space
abbrev pub is_visible : ℕ → Bool
is_visible byte = nat_lt 32 byte && nat_lt byte 127

-- the body and the head are within the limits, the host is visible
pub record IsSendable (body host username password : List ℕ) : Type 0 where
  pub body_fits : length body ≤ body_limit
  pub head_fits : length (request_text body host username password) ≤ head_limit + length body
  pub host_visible : list_all is_visible host ≡ true
  pub bytes : IsBytes (username ++ colon ∷ password)

-- the server asks for nothing, or for this name and this password
abbrev pub LetsIn : Guard → List ℕ → List ℕ → Type 0
LetsIn guard username password =
    (is_open guard ≡ true)
    ⊎
    ((0 < length username) × (guard.username ≡ username)
    × (is_password guard.password password ≡ true))
