-- Parts of a block's measures.
use Rattle.std.specs.Prelude.{ℕ, List, length, sum_by}
use Rattle.il_ast.specs.declared.instruction.Inst.{Inst}
use Rattle.il_ast.specs.declared.instruction.Lined.{Lined}
use Rattle.il_ast.specs.declared.block.Phi.{Phi}
use Rattle.il_ast.specs.Prelude.{inst_weight, alloc_bytes}

abbrev pub phis_weight : List Phi → ℕ
phis_weight phis = sum_by (λ (p : Phi). length p.args) phis

abbrev pub insts_weight : List (Lined Inst) → ℕ
insts_weight insts = sum_by (λ (i : Lined Inst). inst_weight i.item) insts

abbrev pub insts_alloc : List (Lined Inst) → ℕ
insts_alloc insts = sum_by (λ (i : Lined Inst). alloc_bytes i.item) insts
