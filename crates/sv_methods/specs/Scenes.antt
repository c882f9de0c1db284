-- What a method may look at, as plain data.
use Rattle.std.specs.Prelude.{ℕ, List, Bool}
use Rattle.sv_base.specs.declared.config.Config.{Config}
use Rattle.sv_base.specs.declared.spec.GroupSpec.{GroupSpec}
use Rattle.sv_base.specs.declared.state.Mood.{Mood}
use Rattle.sv_child.specs.declared.child.Child.{Child}
use Rattle.sv_methods.specs.declared.stand.Stand.{Stand}

-- the daemon's mood and its own process number; the configuration; the groups and the children of
-- all processes in start order; of each child, whether the stdin of its present run was closed by a
-- failed write; and the known sizes of files
pub record Scene : Type 0 where
  pub mood : Mood
  pub pid : ℕ
  pub config : Config
  pub roster : List GroupSpec
  pub children : List Child
  pub closed : List Bool
  pub sizes : List (List ℕ × ℕ)

-- what a stand lends
abbrev pub scene : Stand → Scene
scene stand = record {
  mood = stand.mood;
  pid = stand.pid;
  config = stand.config.now;
  roster = stand.roster.now;
  children = stand.children.now;
  closed = stand.closed.now;
  sizes = stand.sizes.now;
}
