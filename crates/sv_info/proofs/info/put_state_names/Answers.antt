use Rattle.std.proofs.Common.{ℕ, List, ap, codes, pos}
use Rattle.sv_xmlcall.specs.Trees.{Tree, integer, text}
use Rattle.sv_info.proofs.MemberLaws.{two_more}
use Rattle.sv_info.proofs.info.put_state_names.Goals as goal

pub returns : goal.returns
returns c =
    two_more _ _ _ _ _ _ _ c.in_ok-put_count.ensures (ap (λ (n : ℕ). (let m : List ℕ × Tree = (codes "state", integer (pos n)) in m)) c.number.ensures)
    c.in_ok-put_word.ensures (ap (λ (word : List ℕ). (let m : List ℕ × Tree = (codes "statename", text word) in m)) c.name.ensures)
