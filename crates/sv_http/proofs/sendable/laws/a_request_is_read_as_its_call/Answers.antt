use Rattle.std.proofs.Common.{◌∷◌, [], false}
use Rattle.sv_http.proofs.Advances.{stands_asks}
use Rattle.sv_http.proofs.Streams.{asks_unique}
use Rattle.sv_http.specs.RequestText.{request_text}
use Rattle.sv_http.specs.declared.ask.Ask.TheVariants.{Call}
use Rattle.sv_http.proofs.SendableLemmas.Requests.{is_one_call}
use Rattle.sv_http.proofs.sendable.laws.a_request_is_read_as_its_call.Goals as goal

pub returns-clause-asks : goal.returns-clause-asks
returns-clause-asks c guard body host username password sendable lets =
    is_one_call guard body host username password sendable lets

pub returns-clause-read : goal.returns-clause-read
returns-clause-read c reader body host username password asks sendable lets stands =
    asks_unique reader.guard (request_text body host username password) asks (Call body false ∷ [])
    (stands_asks reader.guard reader.place reader.head.items reader.body.items (request_text body host username password) asks stands)
    (is_one_call reader.guard body host username password sendable lets)
