-- The server that is asked, by the client's options and the configuration that they name.
use Rattle.std.specs.Prelude.{◌≡◌, ℕ, List, [], Option, Some, None, Result, Ok, Err, codes}
use Rattle.sv_ctl.specs.Ask.ServerUrl.{place_of}
use Rattle.sv_base.specs.declared.config.ClientSpec.{ClientSpec}
use Rattle.sv_base.specs.declared.config.Host.{Host}
use Rattle.sv_base.specs.declared.config.Place.{Place}
use Rattle.sv_load.specs.Loading.{Loads}
use Rattle.sv_load.specs.declared.fault.LoadFault.{LoadFault}
use Rattle.sv_load.specs.declared.fault.LoadFault.TheVariants as load
use Rattle.sv_load.specs.declared.loading.Loaded.{Loaded}
use Rattle.sv_ctl.specs.Options.{options_of}
use Rattle.sv_ctl.specs.declared.options.Options.{Options}
use Rattle.sv_out.specs.Files.{Files}
use Rattle.sv_ctl.specs.declared.refusal.Refusal.{Refusal}
use Rattle.sv_ctl.specs.declared.refusal.Refusal.TheVariants.{Words, Missing, Conf, Unreadable}
use Rattle.sv_ctl.specs.declared.refusal.Refusal.TheVariants.{OutOfMemory}
use Rattle.sv_ctl.specs.declared.talk.server.Server.{Server}

-- this holds of what is given, or memory was refused
abbrev pub Freely : {A : Type 0} → (Result A Refusal → Type 0) → Result A Refusal → Type 0
Freely Holds (Err OutOfMemory) = Unit {0}
Freely Holds result = Holds result

-- what the client is told where no file is named
abbrev pub default_client : ClientSpec
default_client = record { url = codes "http://localhost:9001"; username = []; password = [] }

-- what the file tells, or why it tells nothing
abbrev pub client_in : List ℕ → Result Loaded LoadFault → Result ClientSpec Refusal
client_in file (Ok loaded) = Ok loaded.config.client
client_in file (Err load.Missing) = Err (Missing file)
client_in file (Err (load.Refused fault)) = Err (Conf fault)
client_in file (Err (load.Failed name)) = Err (Unreadable name)
client_in file (Err load.OutOfMemory) = Err OutOfMemory

-- what the client is told by the file, where one is named
abbrev pub Reads : Files → Host → Option (List ℕ) → Result ClientSpec Refusal → Type 0
Reads files host None client = client ≡ Ok default_client
Reads files host (Some file) client =
    (loaded : Result Loaded LoadFault) × Loads files file host loaded
    × (client ≡ client_in file loaded)

-- an option's value in place of the configuration's
abbrev pub chosen : Option (List ℕ) → List ℕ → List ℕ
chosen None configured = configured
chosen (Some value) configured = value

-- what the client is told, with the values of the options in place of it
abbrev pub with_options : Options → ClientSpec → ClientSpec
with_options options client = record {
  url = chosen options.url client.url;
  username = chosen options.username client.username;
  password = chosen options.password client.password;
}

-- the server, where its URL leads to a place
abbrev pub server_at : ClientSpec → Option Place → Result Server Refusal
server_at client None = Err Words
server_at client (Some place) = Ok (record { place = place; client = client })

-- the server of a client
abbrev pub server_of : Options → Result ClientSpec Refusal → Result Server Refusal
server_of options (Ok client) =
    server_at (with_options options client) (place_of (with_options options client).url)
server_of options (Err refusal) = Err refusal

-- the server by the options, where the command line takes them
abbrev pub ServesBy : Files → Host → Option Options → Result Server Refusal → Type 0
ServesBy files host None server = server ≡ Err Words
ServesBy files host (Some options) server =
    (client : Result ClientSpec Refusal) × Reads files host options.file client
    × (server ≡ server_of options client)

-- the server by the words of the options
abbrev pub Serves : Files → Host → List (List ℕ) → Result Server Refusal → Type 0
Serves files host words = ServesBy files host (options_of words)

-- the shelf failed
abbrev pub IsUnreadable : Refusal → Type 0
IsUnreadable (Unreadable name) = Unit {0}
IsUnreadable refusal = ⊥

-- the shelf failed
abbrev pub EndsUnreadable : {A : Type 0} → Result A Refusal → Type 0
EndsUnreadable (Ok value) = ⊥
EndsUnreadable (Err refusal) = IsUnreadable refusal
