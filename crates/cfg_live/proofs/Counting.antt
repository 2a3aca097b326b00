-- Points only grow, and are as many as the graph has.
use Rattle.std.proofs.Common.{◌≡◌, ℕ, ◌+◌, ◌<◌, ◌≤◌, List, [], ◌∷◌, length, get_or, drop, refl, sym, ap, ◌∙◌, arith}
use Rattle.vcode.specs.declared.line.Line.{Line}
use Rattle.vcode.specs.declared.line.Line.TheVariants.{Tick, Set, Operate, Load, Store, Alloc, Blit, Call}
use Rattle.vcode.specs.declared.code.Block.{Block}
use Rattle.cfg_live.specs.declared.uses.Uses.{Uses}
use Rattle.cfg_live.specs.Rows.{line_uses, jump_uses, with_line, with_lines, with_block, with_blocks, uses}
use Rattle.cfg_live.specs.Numbering.{next_point, jump_point, end_point}
use Rattle.vcode.proofs.Lists.{item_next, one_more}

pub next_low : (p : ℕ) (l : Line ℕ) → p ≤ next_point p l
next_low p (Tick turn w) = omega arith
next_low p (Set to a) = omega arith
next_low p (Operate to op a b) = omega arith
next_low p (Load to op at) = omega arith
next_low p (Store size a at) = omega arith
next_low p (Alloc to size) = omega arith
next_low p (Blit from to count) = omega arith
next_low p (Call to callee args) = omega arith

pub jump_low : (p : ℕ) (lines : List (Line ℕ)) → p ≤ jump_point p lines
jump_low p [] = omega arith
jump_low p (l ∷ lines) = let a : p ≤ next_point p l = next_low p l in let b : next_point p l ≤ jump_point (next_point p l) lines = jump_low (next_point p l) lines in omega arith

pub end_low : (p : ℕ) (blocks : List (Block ℕ)) → p ≤ end_point p blocks
end_low p [] = omega arith
end_low p (b ∷ blocks) = let a = jump_low p b.lines in let c = end_low (jump_point p b.lines + 1) blocks in omega arith

pub next_fits : (lines : List (Line ℕ)) (i p e : ℕ) (l : Line ℕ) → i < length lines → l ≡ get_or lines i l → jump_point p (drop i lines) ≡ e → next_point p l ≤ e
next_fits lines i p e l low at is =
    let f : jump_point (next_point p l) (drop (i + 1) lines) ≡ e = ap (jump_point p) (sym (item_next lines i l low at)) ∙ is in
    let g = jump_low (next_point p l) (drop (i + 1) lines) in
    omega arith

pub block_fits : (blocks : List (Block ℕ)) (i p e : ℕ) (b : Block ℕ) → i < length blocks → b ≡ get_or blocks i b → end_point p (drop i blocks) ≡ e → jump_point p b.lines + 1 ≤ e
block_fits blocks i p e b low at is =
    let f : end_point (jump_point p b.lines + 1) (drop (i + 1) blocks) ≡ e = ap (end_point p) (sym (item_next blocks i b low at)) ∙ is in
    let g = end_low (jump_point p b.lines + 1) (drop (i + 1) blocks) in
    omega arith

-- ---- the graph's points

line_count : (us : List Uses) (l : Line ℕ) → length (with_line us l) ≡ next_point (length us) l
line_count us (Tick turn w) = refl
line_count us (Set to a) = one_more us (line_uses (Set to a))
line_count us (Operate to op a b) = one_more us (line_uses (Operate to op a b))
line_count us (Load to op at) = one_more us (line_uses (Load to op at))
line_count us (Store size a at) = one_more us (line_uses (Store size a at))
line_count us (Alloc to size) = one_more us (line_uses (Alloc to size))
line_count us (Blit from to count) = one_more us (line_uses (Blit from to count))
line_count us (Call to callee args) = one_more us (line_uses (Call to callee args))

lines_count : (us : List Uses) (lines : List (Line ℕ)) → length (with_lines us lines) ≡ jump_point (length us) lines
lines_count us [] = refl
lines_count us (l ∷ lines) = lines_count (with_line us l) lines ∙ ap (λ k. jump_point k lines) (line_count us l)

pub block_count : (us : List Uses) (b : Block ℕ) → length (with_block us b) ≡ jump_point (length us) b.lines + 1
block_count us b = one_more (with_lines us b.lines) (jump_uses b.jump) ∙ ap (λ k. k + 1) (lines_count us b.lines)

blocks_count : (us : List Uses) (blocks : List (Block ℕ)) → length (with_blocks us blocks) ≡ end_point (length us) blocks
blocks_count us [] = refl
blocks_count us (b ∷ blocks) = blocks_count (with_block us b) blocks ∙ ap (λ k. end_point k blocks) (block_count us b)

pub uses_count : (blocks : List (Block ℕ)) → length (uses blocks) ≡ end_point 0 blocks
uses_count blocks = blocks_count [] blocks
