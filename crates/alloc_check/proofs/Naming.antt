-- Where the places of a point's code exist, its registers are named; and what calls and jumps cost with a move before them.
use Rattle.std.proofs.Common.{◌≡◌, ℕ, ◌+◌, ◌≤◌, Bool, true, false, ◌&&◌, ◌||◌, nat_eq, if◌then◌else◌, List, [], ◌∷◌, ◌++◌, map, Option, Some, None, refl, sym, ◌∙◌, ap, arith, option_map}
use Rattle.std.specs.List.{list_all}
use Rattle.std.proofs.lemmas.Bool.{and_parts}
use Rattle.il_ast.specs.declared.operation.Class.{Class}
use Rattle.il_ast.specs.declared.operation.Class.TheVariants.{W, L}
use Rattle.vcode.specs.declared.place.Location.{Location}
use Rattle.vcode.specs.declared.place.Operand.{Operand}
use Rattle.vcode.specs.declared.place.Operand.TheVariants.{At, Number, Name}
use Rattle.vcode.specs.declared.place.Argument.{Argument}
use Rattle.vcode.specs.declared.place.Destination.{Destination}
use Rattle.vcode.specs.declared.line.Line.{Line}
use Rattle.vcode.specs.declared.line.Line.TheVariants.{Tick, Set, Operate, Load, Store, Alloc, Blit, Call}
use Rattle.vcode.specs.declared.line.Jump.{Jump}
use Rattle.vcode.specs.declared.line.Jump.TheVariants.{Goto, Branch, Return, Halt}
use Rattle.vcode.specs.declared.code.Block.{Block}
use Rattle.vcode.specs.declared.function.VFunc.{VFunc}
use Rattle.vcode.specs.Prelude.{is_immediate, operand_cost, branch_cost, jump_cost, operand_keeps, wanted_keeps, line_keeps, jump_keeps, block_keeps, is_place}
use Rattle.certificates.specs.declared.certificate.Equality.{Equality}
use Rattle.certificates.specs.declared.certificate.Transfer.{Transfer}
use Rattle.certificates.specs.declared.certificate.Certificate.{Certificate}
use Rattle.certificates.specs.Listed.{has}
use Rattle.alloc_check.specs.Prelude.{placed_operand, placed_argument, placed_destination, placed_line, placed_jump, place_by, places_at, layout_at, transfers, next_point, jump_point, certified_lines, certified_block, certified_blocks, placed_by, is_sound, exists_in, equalities_exist, names_once, has_lengths, is_placed, is_accepted, lines_named, blocks_named, moves_before}
use Rattle.alloc_check.proofs.Accepts.{accepted_parts, parts}
use Rattle.alloc_check.proofs.Certifies.{line_on}

place_named : (n : ℕ) (es : List Equality) (r : ℕ) → is_place n (place_by es r) ≡ true → has es r ≡ true
place_named n [] r h = absurd (let no : ⊥ = cc in no)
place_named n (e ∷ es) r h = by (nat_eq e.register r) refl h (place_named n es r)
  where
    by : (b : Bool) → nat_eq e.register r ≡ b → is_place n (if nat_eq e.register r then e.place else place_by es r) ≡ true
        → (is_place n (place_by es r) ≡ true → has es r ≡ true) → (nat_eq e.register r || has es r) ≡ true
    by true f g rest = ap (λ b. b || has es r) f
    by false f g rest = ap (λ b. b || has es r) f ∙ rest (sym (ap (λ b. is_place n (if b then e.place else place_by es r)) f) ∙ g)

operand_named : (n : ℕ) (es : List Equality) (a : Operand ℕ) → operand_keeps (is_place n) (placed_operand (place_by es) a) ≡ true → operand_keeps (has es) a ≡ true
operand_named n es (At r) h = place_named n es r h
operand_named n es (Number k) h = refl
operand_named n es (Name g) h = refl

two_named : (n : ℕ) (es : List Equality) (a b : Operand ℕ)
    → (operand_keeps (is_place n) (placed_operand (place_by es) a) && operand_keeps (is_place n) (placed_operand (place_by es) b)) ≡ true
    → (operand_keeps (has es) a && operand_keeps (has es) b) ≡ true
two_named n es a b h =
    let s = and_parts (operand_keeps (is_place n) (placed_operand (place_by es) a)) (operand_keeps (is_place n) (placed_operand (place_by es) b)) h in
    ap (λ x. x && operand_keeps (has es) b) (operand_named n es a s.0) ∙ operand_named n es b s.1

wanted_named : (n : ℕ) (es : List Equality) (to : Option (Destination ℕ)) → wanted_keeps (is_place n) (option_map (placed_destination (place_by es)) to) ≡ true → wanted_keeps (has es) to ≡ true
wanted_named n es None h = refl
wanted_named n es (Some d) h = place_named n es d.place h

args_named : (n : ℕ) (es : List Equality) (args : List (Argument ℕ))
    → list_all (λ (a : Argument Location). operand_keeps (is_place n) a.value) (map (placed_argument (place_by es)) args) ≡ true
    → list_all (λ (a : Argument ℕ). operand_keeps (has es) a.value) args ≡ true
args_named n es [] h = refl
args_named n es (a ∷ args) h =
    let s = and_parts (operand_keeps (is_place n) (placed_operand (place_by es) a.value)) (list_all (λ (x : Argument Location). operand_keeps (is_place n) x.value) (map (placed_argument (place_by es)) args)) h in
    ap (λ b. b && list_all (λ (x : Argument ℕ). operand_keeps (has es) x.value) args) (operand_named n es a.value s.0) ∙ args_named n es args s.1

line_named : (n : ℕ) (es : List Equality) (l : Line ℕ) → line_keeps (is_place n) (placed_line (place_by es) l) ≡ true → line_keeps (has es) l ≡ true
line_named n es (Tick turn w) h = refl
line_named n es (Set to a) h =
    let s = and_parts (is_place n (place_by es to)) (operand_keeps (is_place n) (placed_operand (place_by es) a)) h in
    ap (λ b. b && operand_keeps (has es) a) (place_named n es to s.0) ∙ operand_named n es a s.1
line_named n es (Operate to op a b) h =
    let s = and_parts (is_place n (place_by es to)) (operand_keeps (is_place n) (placed_operand (place_by es) a) && operand_keeps (is_place n) (placed_operand (place_by es) b)) h in
    ap (λ x. x && (operand_keeps (has es) a && operand_keeps (has es) b)) (place_named n es to s.0) ∙ two_named n es a b s.1
line_named n es (Load to op at) h =
    let s = and_parts (is_place n (place_by es to)) (operand_keeps (is_place n) (placed_operand (place_by es) at.base)) h in
    ap (λ b. b && operand_keeps (has es) at.base) (place_named n es to s.0) ∙ operand_named n es at.base s.1
line_named n es (Store size a at) h = two_named n es a at.base h
line_named n es (Alloc None size) h = refl
line_named n es (Alloc (Some r) size) h = place_named n es r h
line_named n es (Blit from to count) h = two_named n es from to h
line_named n es (Call to callee args) h =
    let s = and_parts (wanted_keeps (is_place n) (option_map (placed_destination (place_by es)) to))
    (operand_keeps (is_place n) (placed_operand (place_by es) callee) && list_all (λ (a : Argument Location). operand_keeps (is_place n) a.value) (map (placed_argument (place_by es)) args)) h in
    let t = and_parts (operand_keeps (is_place n) (placed_operand (place_by es) callee)) (list_all (λ (a : Argument Location). operand_keeps (is_place n) a.value) (map (placed_argument (place_by es)) args)) s.1 in
    ap (λ b. b && (operand_keeps (has es) callee && list_all (λ (a : Argument ℕ). operand_keeps (has es) a.value) args)) (wanted_named n es to s.0)
    ∙ ap (λ b. b && list_all (λ (a : Argument ℕ). operand_keeps (has es) a.value) args) (operand_named n es callee t.0)
    ∙ args_named n es args t.1

jump_named : (n : ℕ) (es : List Equality) (j : Jump ℕ) → jump_keeps (is_place n) (placed_jump (place_by es) j) ≡ true → jump_keeps (has es) j ≡ true
jump_named n es (Goto k) h = refl
jump_named n es (Branch on met otherwise) h = two_named n es on.left on.right h
jump_named n es (Return None) h = refl
jump_named n es (Return (Some a)) h = operand_named n es a.value h
jump_named n es Halt h = refl

-- without the moves before them
past_moves : (n : ℕ) (ms : List Transfer) (rest : List (Line Location)) → list_all (line_keeps (is_place n)) (transfers ms ++ rest) ≡ true → list_all (line_keeps (is_place n)) rest ≡ true
past_moves n [] rest h = h
past_moves n (m ∷ ms) rest h = past_moves n ms rest (and_parts (is_place n m.to && is_place n m.from) (list_all (line_keeps (is_place n)) (transfers ms ++ rest)) h).1

lines_have : (n : ℕ) (c : Certificate) (p : ℕ) (j : Jump ℕ) (lines : List (Line ℕ)) → list_all (line_keeps (is_place n)) (certified_lines c p lines) ≡ true
    → jump_keeps (is_place n) (placed_jump (layout_at c (jump_point p lines)) j) ≡ true → lines_named c p j lines ≡ true
lines_have n c p j [] h e = jump_named n (places_at c p) j e
lines_have n c p j (l ∷ lines) h e =
    let after = past_moves n (moves_before c p l) (placed_line (layout_at c p) l ∷ certified_lines c (next_point p l) lines)
    (sym (ap (list_all (line_keeps (is_place n))) (line_on c p l lines)) ∙ h) in
    let s = and_parts (line_keeps (is_place n) (placed_line (layout_at c p) l)) (list_all (line_keeps (is_place n)) (certified_lines c (next_point p l) lines)) after in
    ap (λ b. b && lines_named c (next_point p l) j lines) (line_named n (places_at c p) l s.0) ∙ lines_have n c (next_point p l) j lines s.1 e

blocks_have : (n : ℕ) (c : Certificate) (p : ℕ) (blocks : List (Block ℕ)) → list_all (block_keeps (is_place n)) (certified_blocks c p blocks) ≡ true → blocks_named c p blocks ≡ true
blocks_have n c p [] h = refl
blocks_have n c p (b ∷ blocks) h =
    let s = and_parts (block_keeps (is_place n) (certified_block c p b)) (list_all (block_keeps (is_place n)) (certified_blocks c (jump_point p b.lines + 1) blocks)) h in
    let t = and_parts (list_all (line_keeps (is_place n)) (certified_lines c p b.lines)) (jump_keeps (is_place n) (placed_jump (layout_at c (jump_point p b.lines)) b.jump)) s.0 in
    ap (λ x. x && blocks_named c (jump_point p b.lines + 1) blocks) (lines_have n c p b.jump b.lines t.0 t.1) ∙ blocks_have n c (jump_point p b.lines + 1) blocks s.1

pub each_named : (v : VFunc) (c : Certificate) → is_accepted v c ≡ true → (blocks_named c 0 v.code.blocks ≡ true) × (list_all names_once c.places ≡ true)
each_named v c h =
    let l = placed_by v.code c in
    let first = accepted_parts v c h in
    let placed = parts v.registers l (and_parts (is_sound v.code c) (is_placed v.registers l) first.1).1 in
    let places : Bool = equalities_exist v.registers c.places && list_all names_once c.places in
    let lengths = and_parts (has_lengths v.code c) (list_all (exists_in v.registers) c.everywhere && (equalities_exist v.registers c.starts && places)) first.0 in
    let every = and_parts (list_all (exists_in v.registers) c.everywhere) (equalities_exist v.registers c.starts && places) lengths.1 in
    let starts = and_parts (equalities_exist v.registers c.starts) places every.1 in (
      blocks_have v.registers c 0 v.code.blocks (and_parts (list_all (λ (d : Destination Location). is_place v.registers d.place) l.params) (list_all (block_keeps (is_place v.registers)) l.blocks) placed.places).1,
      (and_parts (equalities_exist v.registers c.places) (list_all names_once c.places) starts.1).1,
    )

-- ---- what it costs

operand_most : (a : Operand Location) → operand_cost a ≤ 9
operand_most (At p) = omega arith
operand_most (Number n) = by (is_immediate n)
  where
    by : (b : Bool) → (if b then 1 else 9) ≤ 9
    by true = omega arith
    by false = omega arith
operand_most (Name g) = omega arith

class_most : (k : Class) → branch_cost k ≤ 7
class_most W = omega arith
class_most L = omega arith

pub jump_most : (j : Jump Location) → jump_cost j ≤ 25
jump_most (Goto k) = omega arith
jump_most (Branch on met otherwise) =
    let a = operand_most on.left in let b = operand_most on.right in let k = class_most on.class in omega (arith, a, b, k)
jump_most (Return None) = omega arith
jump_most (Return (Some a)) = let h = operand_most a.value in omega (arith, h)
jump_most Halt = omega arith
