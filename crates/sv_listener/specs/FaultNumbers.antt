-- The numbers of the faults at which a listener hears no more.
use Rattle.std.specs.Prelude.{ℕ}
use Rattle.sv_listener.specs.declared.events.HeardFault.{HeardFault}
use Rattle.sv_listener.specs.declared.events.HeardFault.TheVariants.{BadHeader, TooLong}

-- the number of a fault
abbrev pub fault_number : HeardFault → ℕ
fault_number BadHeader = 1
fault_number TooLong = 2
