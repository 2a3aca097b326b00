-- Sets that are justified and closed have just the live registers.
use Rattle.std.proofs.Common.{◌≡◌, ℕ, zero, suc, ◌<◌, true, List}
use Rattle.bitset.specs.Bits.{Bits}
use Rattle.cfg_live.specs.declared.graph.Graph.{Graph}
use Rattle.cfg_live.specs.Rows.{LivePath, IsLive, holds, Closed, ClosedIsExact}

on_path : (g : Graph) (registers : ℕ) (rows : List Bits) → Closed g registers rows → (r : ℕ) → r < registers → (n p : ℕ) → LivePath g r n p → holds rows p r ≡ true
on_path g registers rows c r below zero p h = c.read p r below h
on_path g registers rows c r below (suc n) p h =
    c.behind p h.1.0 r below h.0 h.1.1 (on_path g registers rows c r below n h.1.0 h.1.2)

pub each : (g : Graph) (registers : ℕ) (rows : List Bits) → Closed g registers rows → (p r : ℕ) → r < registers → IsLive g p r → holds rows p r ≡ true
each g registers rows c p r below h = on_path g registers rows c r below h.0 p h.1

pub closed_is_exact : ClosedIsExact
closed_is_exact g registers rows justified closed p r below = (justified p r, each g registers rows closed p r below)
