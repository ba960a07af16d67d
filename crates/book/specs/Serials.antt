-- The last serial of each node.
use Rattle.std.specs.Prelude.{ℕ, cond, eqb}
use Rattle.entries.specs.declared.raw.Raw.{Raw}
use Rattle.book.specs.declared.Serials.{Serials}

unfoldable pub last_of : Serials → ℕ → ℕ
last_of s node = cond (eqb node 1) s.node_1 s.node_2

-- an accepted entry's serial becomes its node's last
unfoldable pub after_of : Serials → Raw → Serials
after_of s r =
    cond (eqb r.node 1) (record { node_1 = r.serial; node_2 = s.node_2 })
    (record { node_1 = s.node_1; node_2 = r.serial })
