-- The header line of an event that was written is read back.
use Rattle.std.proofs.Common.{◌≡◌, ◌<◌, ◌≤◌, ◌+◌, ◌^◌, ◌++◌, ℕ, List, ◌∷◌, Option, None, Some, length, refl, ap, sym, ◌∙◌, subst, arith, append_assoc, length-append, codes}
use Rattle.std.proofs.lemmas.Fmt.{length-decimal-le}
use Rattle.std.specs.Fmt.{decimal}
use Rattle.sv_base.specs.KindNames.{kind_name}
use Rattle.sv_base.specs.declared.kind.Kind.{Kind}
use Rattle.sv_listener.specs.HeaderLine.{Header, IsWord, header_of, named, pooled, sized}
use Rattle.sv_listener.specs.Reading.{◌>>=◌, cut_at, number_at}
use Rattle.sv_listener.specs.declared.header.Size.{Size}
use Rattle.sv_listener.specs.declared.header.Size.TheVariants.{Bytes}
use Rattle.sv_listener.proofs.Spelled.{decimal_lacks, kind_is, kind_is_short, kind_lacks_feed, lacks_both, number_is, size_is, text_is}
use Rattle.sv_listener.specs.EventText.{CanBeHeard, Event, head_of}
use Rattle.sv_pipes.specs.StreamCut.{rest_after}

-- what the header line says
abbrev pub header_for : Event → Header
header_for event = record {
  pool = event.pool;
  serial = event.serial;
  poolserial = event.poolserial;
  kind = event.kind;
  size = Bytes (length event.body);
}

sized_is : (pool : List ℕ) (serial poolserial : ℕ) (kind : Kind) (size : ℕ) → size < 2 ^ 64
    → sized pool serial poolserial kind (codes "len:" ++ decimal size)
    ≡ Some (record { pool = pool; serial = serial; poolserial = poolserial; kind = kind; size = Bytes size })
sized_is pool serial poolserial kind size small =
    ap (λ (found : Option Size). found >>= (λ s. Some (record { pool = pool; serial = serial; poolserial = poolserial; kind = kind; size = s }))) (size_is size small)

named_is : (pool : List ℕ) (serial poolserial : ℕ) (kind : Kind) (size : ℕ) → size < 2 ^ 64
    → named pool serial poolserial (codes "eventname:" ++ (kind_name kind ++ 32 ∷ (codes "len:" ++ decimal size)))
    ≡ Some (record { pool = pool; serial = serial; poolserial = poolserial; kind = kind; size = Bytes size })
named_is pool serial poolserial kind size small =
    ap (λ (found : Option (Kind × List ℕ)). found >>= (λ k. sized pool serial poolserial k.0 k.1)) (kind_is kind (codes "len:" ++ decimal size))
    ∙ sized_is pool serial poolserial kind size small

pooled_is : (pool : List ℕ) (serial poolserial : ℕ) (kind : Kind) (size : ℕ) → IsWord pool → poolserial < 2 ^ 64 → size < 2 ^ 64
    → pooled serial (codes "pool:" ++ (pool ++ 32 ∷ (codes "poolserial:" ++ (decimal poolserial ++ 32 ∷ (codes "eventname:" ++ (kind_name kind ++ 32 ∷ (codes "len:" ++ decimal size)))))))
    ≡ Some (record { pool = pool; serial = serial; poolserial = poolserial; kind = kind; size = Bytes size })
pooled_is pool serial poolserial kind size is low small =
    let last : List ℕ = codes "eventname:" ++ (kind_name kind ++ 32 ∷ (codes "len:" ++ decimal size)) in
    ap (λ (found : Option (List ℕ × List ℕ)). found >>= (λ p. rest_after (codes "poolserial:") p.1 >>= (λ b. number_at b >>= (λ n. named p.0 serial n.0 n.1))))
    (text_is pool (codes "poolserial:" ++ (decimal poolserial ++ 32 ∷ last)) is)
    ∙ ap (λ (found : Option (ℕ × List ℕ)). found >>= (λ n. named pool serial n.0 n.1)) (number_is poolserial last low)
    ∙ named_is pool serial poolserial kind size small

abbrev laid_out : Event → List ℕ
laid_out event =
    codes "ver:3.0 server:" ++ (event.server ++ 32 ∷ (codes "serial:" ++ (decimal event.serial ++ 32 ∷ (codes "pool:" ++ (event.pool ++ 32 ∷ (codes "poolserial:"
    ++ (decimal event.poolserial ++ 32 ∷ (codes "eventname:" ++ (kind_name event.kind ++ 32 ∷ (codes "len:" ++ decimal (length event.body)))))))))))

laid_out_is : (event : Event) → head_of event ≡ laid_out event
laid_out_is event = simp append_assoc refl

laid_out_read : (event : Event) → CanBeHeard event → header_of (laid_out event) ≡ Some (header_for event)
unfolding header_of
laid_out_read event can =
    let small : length event.body < 2 ^ 64 = omega (arith, can.body) in
    let after : List ℕ = codes "pool:" ++ (event.pool ++ 32 ∷ (codes "poolserial:" ++ (decimal event.poolserial ++ 32 ∷ (codes "eventname:" ++ (kind_name event.kind ++ 32 ∷ (codes "len:" ++ decimal (length event.body))))))) in
    ap (λ (found : Option (List ℕ × List ℕ)). found >>= (λ s. rest_after (codes "serial:") s.1 >>= (λ b. number_at b >>= (λ n. pooled n.0 n.1))))
    (text_is event.server (codes "serial:" ++ (decimal event.serial ++ 32 ∷ after)) can.server)
    ∙ ap (λ (found : Option (ℕ × List ℕ)). found >>= (λ n. pooled n.0 n.1)) (number_is event.serial after can.serial)
    ∙ pooled_is event.pool event.serial event.poolserial event.kind (length event.body) can.pool can.poolserial small

pub head_read : (event : Event) → CanBeHeard event → header_of (head_of event) ≡ Some (header_for event)
head_read event can = ap header_of (laid_out_is event) ∙ laid_out_read event can

lacks_line : (server serial pool number kind size : List ℕ) → cut_at 10 server ≡ None → cut_at 10 serial ≡ None → cut_at 10 pool ≡ None
    → cut_at 10 number ≡ None → cut_at 10 kind ≡ None → cut_at 10 size ≡ None
    → cut_at 10 (codes "ver:3.0 server:" ++ (server ++ (codes " serial:" ++ (serial ++ (codes " pool:" ++ (pool ++ (codes " poolserial:"
    ++ (number ++ (codes " eventname:" ++ (kind ++ (codes " len:" ++ size))))))))))) ≡ None
lacks_line server serial pool number kind size a b c d e f =
    let five : cut_at 10 (kind ++ (codes " len:" ++ size)) ≡ None
    = lacks_both 10 kind (codes " len:" ++ size) e (lacks_both 10 (codes " len:") size refl f) in
    let four : cut_at 10 (number ++ (codes " eventname:" ++ (kind ++ (codes " len:" ++ size)))) ≡ None
    = lacks_both 10 number (codes " eventname:" ++ (kind ++ (codes " len:" ++ size))) d
    (lacks_both 10 (codes " eventname:") (kind ++ (codes " len:" ++ size)) refl five) in
    let three : cut_at 10 (pool ++ (codes " poolserial:" ++ (number ++ (codes " eventname:" ++ (kind ++ (codes " len:" ++ size)))))) ≡ None
    = lacks_both 10 pool (codes " poolserial:" ++ (number ++ (codes " eventname:" ++ (kind ++ (codes " len:" ++ size))))) c
    (lacks_both 10 (codes " poolserial:") (number ++ (codes " eventname:" ++ (kind ++ (codes " len:" ++ size)))) refl four) in
    let two : cut_at 10 (serial ++ (codes " pool:" ++ (pool ++ (codes " poolserial:" ++ (number ++ (codes " eventname:" ++ (kind ++ (codes " len:" ++ size)))))))) ≡ None
    = lacks_both 10 serial (codes " pool:" ++ (pool ++ (codes " poolserial:" ++ (number ++ (codes " eventname:" ++ (kind ++ (codes " len:" ++ size))))))) b
    (lacks_both 10 (codes " pool:") (pool ++ (codes " poolserial:" ++ (number ++ (codes " eventname:" ++ (kind ++ (codes " len:" ++ size)))))) refl three) in
    let one : cut_at 10 (server ++ (codes " serial:" ++ (serial ++ (codes " pool:" ++ (pool ++ (codes " poolserial:" ++ (number ++ (codes " eventname:" ++ (kind ++ (codes " len:" ++ size)))))))))) ≡ None
    = lacks_both 10 server (codes " serial:" ++ (serial ++ (codes " pool:" ++ (pool ++ (codes " poolserial:" ++ (number ++ (codes " eventname:" ++ (kind ++ (codes " len:" ++ size))))))))) a
    (lacks_both 10 (codes " serial:") (serial ++ (codes " pool:" ++ (pool ++ (codes " poolserial:" ++ (number ++ (codes " eventname:" ++ (kind ++ (codes " len:" ++ size)))))))) refl two) in
    lacks_both 10 (codes "ver:3.0 server:")
    (server ++ (codes " serial:" ++ (serial ++ (codes " pool:" ++ (pool ++ (codes " poolserial:" ++ (number ++ (codes " eventname:" ++ (kind ++ (codes " len:" ++ size)))))))))) refl one

pub head_lacks_feed : (event : Event) → CanBeHeard event → cut_at 10 (head_of event) ≡ None
head_lacks_feed event can =
    let low_feed : 10 < 48 = omega arith in
    let small : length event.body < 2 ^ 64 = omega (arith, can.body) in
    ap (λ (l : List ℕ). cut_at 10 l) (laid_out_is event)
    ∙ lacks_line event.server (decimal event.serial) event.pool (decimal event.poolserial) (kind_name event.kind) (decimal (length event.body))
    can.server_line (decimal_lacks 10 event.serial low_feed can.serial) can.pool_line (decimal_lacks 10 event.poolserial low_feed can.poolserial)
    (kind_lacks_feed event.kind) (decimal_lacks 10 (length event.body) low_feed small)

pub head_is_short : (event : Event) → CanBeHeard event → length (head_of event) ≤ 4096
head_is_short event can =
    let small : length event.body < 2 ^ 64 = omega (arith, can.body) in
    let serial : length (decimal event.serial) ≤ 20 = length-decimal-le 20 event.serial (omega arith) (omega (arith, can.serial)) can.serial in
    let number : length (decimal event.poolserial) ≤ 20 = length-decimal-le 20 event.poolserial (omega arith) (omega (arith, can.poolserial)) can.poolserial in
    let size : length (decimal (length event.body)) ≤ 20 = length-decimal-le 20 (length event.body) (omega arith) (omega (arith, small)) small in
    subst (λ (l : List ℕ). length l ≤ 4096) (sym (laid_out_is event))
    (short_sum event.server (decimal event.serial) event.pool (decimal event.poolserial) (kind_name event.kind) (decimal (length event.body))
    can.short serial number (kind_is_short event.kind) size)
  where
    short_sum : (server serial pool number kind size : List ℕ) → length server + length pool ≤ 3900 → length serial ≤ 20 → length number ≤ 20 → length kind ≤ 40 → length size ≤ 20
        → length (codes "ver:3.0 server:" ++ (server ++ 32 ∷ (codes "serial:" ++ (serial ++ 32 ∷ (codes "pool:" ++ (pool ++ 32 ∷ (codes "poolserial:"
        ++ (number ++ 32 ∷ (codes "eventname:" ++ (kind ++ 32 ∷ (codes "len:" ++ size))))))))))) ≤ 4096
    short_sum server serial pool number kind size a b c d e =
        let five : length (kind ++ 32 ∷ (codes "len:" ++ size)) ≤ 40 + 5 + 20 = omega (arith, d, e, length-append kind (32 ∷ (codes "len:" ++ size))) in
        let four : length (number ++ 32 ∷ (codes "eventname:" ++ (kind ++ 32 ∷ (codes "len:" ++ size)))) ≤ 20 + 11 + 65
        = omega (arith, c, five, length-append number (32 ∷ (codes "eventname:" ++ (kind ++ 32 ∷ (codes "len:" ++ size))))) in
        let three : length (pool ++ 32 ∷ (codes "poolserial:" ++ (number ++ 32 ∷ (codes "eventname:" ++ (kind ++ 32 ∷ (codes "len:" ++ size)))))) ≤ length pool + 12 + 96
        = omega (arith, four, length-append pool (32 ∷ (codes "poolserial:" ++ (number ++ 32 ∷ (codes "eventname:" ++ (kind ++ 32 ∷ (codes "len:" ++ size))))))) in
        let two : length (serial ++ 32 ∷ (codes "pool:" ++ (pool ++ 32 ∷ (codes "poolserial:" ++ (number ++ 32 ∷ (codes "eventname:" ++ (kind ++ 32 ∷ (codes "len:" ++ size)))))))) ≤ 20 + 6 + (length pool + 108)
        = omega (arith, b, three, length-append serial (32 ∷ (codes "pool:" ++ (pool ++ 32 ∷ (codes "poolserial:" ++ (number ++ 32 ∷ (codes "eventname:" ++ (kind ++ 32 ∷ (codes "len:" ++ size))))))))) in
        omega (arith, a, two, length-append server (32 ∷ (codes "serial:" ++ (serial ++ 32 ∷ (codes "pool:" ++ (pool ++ 32 ∷ (codes "poolserial:" ++ (number ++ 32 ∷ (codes "eventname:" ++ (kind ++ 32 ∷ (codes "len:" ++ size)))))))))))
