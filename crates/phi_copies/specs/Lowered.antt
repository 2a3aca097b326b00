-- The endings that stand for a function's jumps and phis. The phis of a block are done where it is
-- entered from, by copies. After a branch they stand in a block of their own, on an edge.
use Rattle.std.specs.Prelude.{◌≡◌, ℕ, ◌+◌, nat_eq, Bool, true, false, List, [], ◌∷◌, ◌++◌, length, Option, Some, None}
use Rattle.il_ast.specs.declared.operand.Val.{Val}
use Rattle.il_ast.specs.declared.instruction.Jump.{Jump}
use Rattle.il_ast.specs.declared.instruction.Jump.TheVariants.{Goto, Branch, Return, Halt}
use Rattle.il_ast.specs.declared.instruction.Lined.{Lined}
use Rattle.il_ast.specs.declared.block.Phi.{Phi}
use Rattle.il_ast.specs.declared.block.Block.{Block}
use Rattle.il_ast.specs.declared.function.Func.{Func}
use Rattle.il_ast.specs.Prelude.{place_of}
use Rattle.phi_copies.specs.declared.ending.Leave.{Leave}
use Rattle.phi_copies.specs.declared.ending.Leave.TheVariants.{Goto as GotoBlock, Branch as BranchTo, Return as ReturnWith, Halt as HaltRun}
use Rattle.phi_copies.specs.declared.ending.Ending.{Ending}
use Rattle.phi_copies.specs.Copies.{phis_at, AreCopies}
use Rattle.phi_copies.specs.Endings.{Endings}

-- ---- blocks

-- the place of the block with this label, 0 where there is none
abbrev pub or_zero : Option ℕ → ℕ
or_zero None = 0
or_zero (Some k) = k

abbrev pub target : List Block → ℕ → ℕ
target blocks l = or_zero (place_of blocks l)

-- ---- edges

-- the way from the block with this label to the block at place `to`
pub record Edge : Type 0 where
  pub from : ℕ
  pub to : ℕ

abbrev pub edge_with : (from k : ℕ) → List Phi → List Edge
edge_with from k [] = []
edge_with from k (p ∷ ps) = record { from = from; to = k } ∷ []

-- the way from a branch to the block at place k is an edge where that has phis
abbrev pub edge : Func → (from k : ℕ) → List Edge
edge f from k = edge_with from k (phis_at f.blocks k)

-- a branch that leads to one block by both ways is a jump there
abbrev pub straight_if : Bool → Val → (nonzero otherwise : ℕ) → Jump
straight_if true on nonzero otherwise = Goto nonzero
straight_if false on nonzero otherwise = Branch on nonzero otherwise

abbrev pub straight : Jump → Jump
straight (Goto l) = Goto l
straight (Branch on nonzero otherwise) = straight_if (nat_eq nonzero otherwise) on nonzero otherwise
straight (Return a) = Return a
straight Halt = Halt

abbrev pub jump_edges : Func → (from : ℕ) → Jump → List Edge
jump_edges f from (Goto l) = []
jump_edges f from (Branch on nonzero otherwise) =
    edge f from (target f.blocks nonzero) ++ edge f from (target f.blocks otherwise)
jump_edges f from (Return a) = []
jump_edges f from Halt = []

abbrev pub end_edges : Func → (from : ℕ) → Option (Lined Jump) → List Edge
end_edges f from None = []
end_edges f from (Some j) = jump_edges f from (straight j.item)

abbrev pub block_edges : Func → Block → List Edge
block_edges f b = end_edges f b.label b.jump

abbrev pub all_edges : Func → List Block → List Edge
all_edges f [] = []
all_edges f (b ∷ blocks) = block_edges f b ++ all_edges f blocks

-- ---- endings

-- where a branch to the block at place k goes: to the block, or to the edge that has this number
abbrev pub past_edge : Func → (number k : ℕ) → List Phi → ℕ
past_edge f number k [] = k
past_edge f number k (p ∷ ps) = length f.blocks + number

abbrev pub branch_target : Func → (number k : ℕ) → ℕ
branch_target f number k = past_edge f number k (phis_at f.blocks k)

abbrev pub one_turn_ending : Leave → Ending
one_turn_ending leave = record { turn = true; weight = 1; copies = []; leave = leave }

-- the ending for a jump to the block at place k, which does its phis
abbrev pub IsGoto : Func → (from k : ℕ) → Ending → Type 0
IsGoto f from k e =
    (e
    ≡ record {
      turn = true;
      weight = 1 + length (phis_at f.blocks k);
      copies = e.copies;
      leave = GotoBlock k;
    })
    × AreCopies f from k e.copies

-- the ending for a jump, where so many edges stand before its own
abbrev pub IsJumpEnding : Func → (from number : ℕ) → Jump → Ending → Type 0
IsJumpEnding f from number (Goto l) e = IsGoto f from (target f.blocks l) e
IsJumpEnding f from number (Branch on nonzero otherwise) e =
    e
    ≡ one_turn_ending
    (BranchTo on (branch_target f number (target f.blocks nonzero))
    (branch_target f (number + length (edge f from (target f.blocks nonzero)))
    (target f.blocks otherwise)))
IsJumpEnding f from number (Return a) e = e ≡ one_turn_ending (ReturnWith a)
IsJumpEnding f from number Halt e = e ≡ one_turn_ending HaltRun

-- a block without a jump, which no program has, halts
abbrev pub IsEndEnding : Func → (from number : ℕ) → Option (Lined Jump) → Ending → Type 0
IsEndEnding f from number None e = e ≡ one_turn_ending HaltRun
IsEndEnding f from number (Some j) e = IsJumpEnding f from number (straight j.item) e

abbrev pub IsBlockEnding : Func → (number : ℕ) → Block → Ending → Type 0
IsBlockEnding f number b e = IsEndEnding f b.label number b.jump e

-- those of these blocks
abbrev pub AreEndings : Func → (number : ℕ) → List Block → List Ending → Type 0
AreEndings f number [] [] = Unit {0}
AreEndings f number [] (e ∷ es) = ⊥
AreEndings f number (b ∷ blocks) [] = ⊥
AreEndings f number (b ∷ blocks) (e ∷ es) =
    IsBlockEnding f number b e × AreEndings f (number + length (block_edges f b)) blocks es

-- the ending on an edge begins no turn, and does the phis
abbrev pub IsOnEdge : Func → Edge → Ending → Type 0
IsOnEdge f w e =
    (e
    ≡ record {
      turn = false;
      weight = length (phis_at f.blocks w.to);
      copies = e.copies;
      leave = GotoBlock w.to;
    })
    × AreCopies f w.from w.to e.copies

abbrev pub AreOnEdges : Func → List Edge → List Ending → Type 0
AreOnEdges f [] [] = Unit {0}
AreOnEdges f [] (e ∷ es) = ⊥
AreOnEdges f (w ∷ ws) [] = ⊥
AreOnEdges f (w ∷ ws) (e ∷ es) = IsOnEdge f w e × AreOnEdges f ws es

-- endings on these edges were put behind the others
abbrev pub Adds : Func → List Edge → (before now : List Ending) → Type 0
Adds f ws before now = (es : List Ending) × (now ≡ before ++ es) × AreOnEdges f ws es

-- the function's endings, in the order of its blocks, and behind them those on its edges
pub record IsLowered (f : Func) (code : Endings) : Type 0 where
  pub endings : AreEndings f 0 f.blocks code.endings
  pub edges : AreOnEdges f (all_edges f f.blocks) code.edges
