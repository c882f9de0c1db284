-- The tail methods (the manual's chapter on its XML-RPC interface): the call of a poll, and what its
-- answer tells.
use Rattle.std.specs.Prelude.{ℕ, pos, List, Option, Some, None, codes, min}
use Rattle.sv_base.specs.declared.state.Stream.{Stream}
use Rattle.sv_base.specs.declared.state.Stream.TheVariants as stream
use Rattle.sv_follow.specs.Follower.{length_of, offset_of}
use Rattle.sv_follow.specs.declared.follower.Follower.{Follower}
use Rattle.sv_follow.specs.declared.tails.Tail.{Tail}
use Rattle.sv_xmlcall.specs.Trees.{CallTree, Tree, array, integer, no_tree}
use Rattle.sv_xmlcall.specs.Trees.{text, tree, truth}

-- the method that follows the log of a stream
abbrev pub tail_method : Stream → List ℕ
tail_method stream.Out = codes "supervisor.tailProcessStdoutLog"
tail_method stream.Err = codes "supervisor.tailProcessStderrLog"

-- a number of bytes as it is sent: the greatest integer stands for every greater number
abbrev pub sent : ℕ → ℕ
sent number = min number 9223372036854775807

-- the call of the next poll: the name, the offset and the length
abbrev pub tail_call : List ℕ → Stream → Follower → CallTree
tail_call name channel follower = record {
  method = tail_method channel;
  params =
      tree (text name)
      (tree (integer (pos (sent (offset_of follower.next))))
      (tree (integer (pos (sent (length_of follower.next)))) no_tree));
}

-- what three values tell: a text, a number of bytes, and whether there are more than were asked for
abbrev pub tail_by : Tree → Tree → Tree → Option Tail
tail_by (text content) (integer (pos size)) (truth overflow) =
    Some (record { text = content; size = size; overflow = overflow })
tail_by content size overflow = None

-- what a value tells, where it is an array of three
abbrev pub tail_of : Tree → Option Tail
tail_of (array (tree content (tree size (tree overflow no_tree)))) = tail_by content size overflow
tail_of value = None
