-- Where the lines of instructions and endings stand in the virtual code.
use Rattle.std.proofs.Common.{◌≡◌, ℕ, zero, suc, ◌+◌, ◌-◌, List, [], ◌∷◌, ◌++◌, length, map, refl, sym, ◌∙◌, ap, arith, append_assoc, slice_get, Some, None, length-append}
use Rattle.il_ast.specs.declared.instruction.Lined.{Lined}
use Rattle.il_ast.specs.declared.instruction.Inst.{Inst}
use Rattle.il_ast.specs.declared.block.Block.{Block}
use Rattle.phi_copies.specs.declared.ending.Ending.{Ending}
use Rattle.vcode.specs.declared.line.Line.{Line}
use Rattle.vcode.specs.declared.code.Block.{Block as VirtualBlock}
use Rattle.select.specs.Selected.{turn_lines, all_lines, block_of, edge_of, blocks_of}
use Rattle.select.specs.Typed.{Classes}
use Rattle.il_ast.proofs.Listed.{get_mapped}

-- ---- blocks

pub block_at : (classes : Classes) (bs : List Block) (es : List Ending) (more : List (VirtualBlock ℕ)) (k : ℕ) (b : Block) (e : Ending) → slice_get bs k ≡ Some b → slice_get es k ≡ Some e → slice_get (blocks_of classes bs es ++ more) k ≡ Some (block_of classes b e)
block_at classes [] es more k b e h j = absurd (let no : ⊥ = cc in no)
block_at classes (c ∷ bs) [] more k b e h j = absurd (let no : ⊥ = cc in no)
block_at classes (c ∷ bs) (d ∷ es) more zero b e h j =
    let same : c ≡ b = cc in let ends : d ≡ e = cc in ap (λ x. Some (block_of classes x d)) same ∙ ap (λ x. Some (block_of classes b x)) ends
block_at classes (c ∷ bs) (d ∷ es) more (suc k) b e h j = block_at classes bs es more k b e h j

pub edge_at : (classes : Classes) (bs : List Block) (es edges : List Ending) (k : ℕ) (e : Ending) → length es ≡ length bs → slice_get bs k ≡ None → slice_get edges (k - length bs) ≡ Some e → slice_get (blocks_of classes bs es ++ map (edge_of classes) edges) k ≡ Some (edge_of classes e)
edge_at classes [] es edges k e same none h = let all : k - 0 ≡ k = omega arith in get_mapped (edge_of classes) edges k e (ap (slice_get edges) (sym all) ∙ h)
edge_at classes (b ∷ bs) [] edges k e same none h = absurd (let no : ⊥ = omega (arith, same) in no)
edge_at classes (b ∷ bs) (d ∷ es) edges zero e same none h = absurd (let no : ⊥ = cc in no)
edge_at classes (b ∷ bs) (d ∷ es) edges (suc k) e same none h =
    let less : suc k - suc (length bs) ≡ k - length bs = omega arith in
    edge_at classes bs es edges k e (omega (arith, same)) none (ap (slice_get edges) (sym less) ∙ h)

-- each block has an ending
pub record HasEnding (es : List Ending) (k : ℕ) : Type 0 where
  pub ending : Ending
  pub is : slice_get es k ≡ Some ending

pub has_ending : (bs : List Block) (es : List Ending) (k : ℕ) (b : Block) → length es ≡ length bs → slice_get bs k ≡ Some b → HasEnding es k
has_ending [] es k b same h = absurd (let no : ⊥ = cc in no)
has_ending (c ∷ bs) [] k b same h = absurd (let no : ⊥ = omega (arith, same) in no)
has_ending (c ∷ bs) (d ∷ es) zero b same h = record { ending = d; is = refl }
has_ending (c ∷ bs) (d ∷ es) (suc k) b same h = let r = has_ending bs es k b (omega (arith, same)) h in record { ending = r.ending; is = r.is }

-- ---- instructions

-- how many lines the first j instructions have
abbrev pub lines_before : Classes → List (Lined Inst) → ℕ → ℕ
lines_before classes [] j = 0
lines_before classes (i ∷ insts) zero = 0
lines_before classes (i ∷ insts) (suc j) = length (turn_lines classes i) + lines_before classes insts j

pub none_before : (classes : Classes) (insts : List (Lined Inst)) → lines_before classes insts 0 ≡ 0
none_before classes [] = refl
none_before classes (i ∷ insts) = refl

-- the lines of the instruction at place j, and what stands before and behind them
pub record Parted (classes : Classes) (insts : List (Lined Inst)) (j : ℕ) (i : Lined Inst) : Type 0 where
  pub before : List (Line ℕ)
  pub behind : List (Line ℕ)
  pub is : all_lines classes insts ≡ before ++ (turn_lines classes i ++ behind)
  pub place : lines_before classes insts j ≡ length before

pub parted : (classes : Classes) (insts : List (Lined Inst)) (j : ℕ) (i : Lined Inst) → slice_get insts j ≡ Some i → Parted classes insts j i
parted classes [] j i e = absurd (let no : ⊥ = cc in no)
parted classes (x ∷ insts) zero i e =
    let same : x ≡ i = cc in record { before = []; behind = all_lines classes insts; is = ap (λ y. turn_lines classes y ++ all_lines classes insts) same; place = refl }
parted classes (x ∷ insts) (suc j) i e =
    let r = parted classes insts j i e in
    let place = r.place in
    let long = length-append (turn_lines classes x) r.before in
    record {
      before = turn_lines classes x ++ r.before;
      behind = r.behind;
      is = ap (λ ls. turn_lines classes x ++ ls) r.is ∙ sym (append_assoc (turn_lines classes x) r.before (turn_lines classes i ++ r.behind));
      place = ap (λ n. length (turn_lines classes x) + n) place ∙ sym long;
    }

-- one instruction further
pub lines_further : (classes : Classes) (insts : List (Lined Inst)) (j : ℕ) (i : Lined Inst) → slice_get insts j ≡ Some i → lines_before classes insts (j + 1) ≡ lines_before classes insts j + length (turn_lines classes i)
lines_further classes [] j i e = absurd (let no : ⊥ = cc in no)
lines_further classes (x ∷ insts) zero i e =
    let same : x ≡ i = cc in
    let none = none_before classes insts in
    let long : length (turn_lines classes x) ≡ length (turn_lines classes i) = ap (λ y. length (turn_lines classes y)) same in
    omega (arith, none, long)
lines_further classes (x ∷ insts) (suc j) i e =
    let next : suc j + 1 ≡ suc (j + 1) = omega arith in
    let rest = lines_further classes insts j i e in
    ap (lines_before classes (x ∷ insts)) next ∙ ap (λ n. length (turn_lines classes x) + n) rest
    ∙ sym (let sum : length (turn_lines classes x) + lines_before classes insts j + length (turn_lines classes i) ≡ length (turn_lines classes x) + (lines_before classes insts j + length (turn_lines classes i)) = omega arith in sum)

-- behind the last instruction
pub lines_all : (classes : Classes) (insts : List (Lined Inst)) (j : ℕ) → slice_get insts j ≡ None → lines_before classes insts j ≡ length (all_lines classes insts)
lines_all classes [] j e = refl
lines_all classes (x ∷ insts) zero e = absurd (let no : ⊥ = cc in no)
lines_all classes (x ∷ insts) (suc j) e = ap (λ n. length (turn_lines classes x) + n) (lines_all classes insts j e) ∙ sym (length-append (turn_lines classes x) (all_lines classes insts))
