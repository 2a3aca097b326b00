-- Code that holds a constant follows the code: all other registers agree, and where the constant is held its register has its value. The line that sets it is one more.
use Rattle.std.proofs.Common.{◌≡◌, ℕ, zero, suc, ◌+◌, Bool, true, false, not, ◌&&◌, ◌||◌, nat_eq, if◌then◌else◌, List, [], ◌∷◌, ◌++◌, map, Option, Some, None, slice_get, refl, sym, ◌∙◌, ap, subst, arith}
use Rattle.std.specs.List.{list_all}
use Rattle.std.proofs.lemmas.Bool.{and_parts, not-true, or_right}
use Rattle.std.proofs.lemmas.Bool.Decides.{nat_tests}
use Rattle.il_ast.specs.declared.value.Value.{Value}
use Rattle.il_ast.specs.Prelude.{KeepsCode}
use Rattle.vcode.specs.declared.place.Operand.{Operand}
use Rattle.vcode.specs.declared.place.Operand.TheVariants.{At, Number, Name}
use Rattle.vcode.specs.declared.line.Line.{Line}
use Rattle.vcode.specs.declared.line.Line.TheVariants.{Set}
use Rattle.vcode.specs.declared.line.Jump.{Jump}
use Rattle.vcode.specs.declared.line.Jump.TheVariants.{Goto, Branch, Return, Halt}
use Rattle.vcode.specs.declared.code.Block.{Block}
use Rattle.vcode.specs.declared.code.Code.{Code}
use Rattle.vcode.specs.Prelude.{Values, virtual, classes_in, operand_keeps, line_keeps, jump_keeps, block_keeps, begin, value_of, step, with_line, with_jump, line_writes, written, Claims, Alike, MayCome, LeadAlike, Follows, Jumps, Both, Come, Rewrites}
use Rattle.vcode.proofs.SameReads.{SameValue}
use Rattle.vcode.proofs.SameActs.{reads_named, jump_reads_named, act_same, writes_stay}
use Rattle.vcode.proofs.Alike.{lines_alike}
use Rattle.vcode.proofs.Writing.{Agree, both_write, writes_only, unwritten, now_holds, second_writes}
use Rattle.vcode.proofs.Leading.{LeadsTo, Arriving, jump_put, leads_more}
use Rattle.vcode.proofs.Rewriting.{rewrites_keep}
use Rattle.flow.specs.Successors.{successors}
use Rattle.constant_placement.specs.declared.hoisting.plan.Constant.{Constant}
use Rattle.constant_placement.specs.declared.hoisting.plan.Constant.TheVariants.{Number as OfNumber, Name as OfName}
use Rattle.constant_placement.specs.declared.hoisting.plan.Plan.{Plan}
use Rattle.constant_placement.specs.Held.{operand_of, is_it, is_held, is_set, replaced, setting, held_block, with_blocks, with_constant, is_other, may_lead, leads_well, is_safe}
use Rattle.il_ast.proofs.Listed.{all_at}

-- ---- what is claimed

abbrev constant_value : List Value → Constant → Option Value
constant_value globals c = value_of globals (λ q. None) (operand_of c)

constant_same : (globals : List Value) (ev : Values ℕ) (c : Constant) → value_of globals ev (operand_of c) ≡ constant_value globals c
constant_same globals ev (OfNumber n) = refl
constant_same globals ev (OfName g) = refl

it_is : (c : Constant) (a : Operand ℕ) → is_it c a ≡ true → a ≡ operand_of c
it_is (OfNumber n) (Number m) h = let same : m ≡ n = grind (arith, nat_tests) in ap (λ (k : ℕ). Number k) same
it_is (OfNumber n) (Name g) h = absurd (let no : ⊥ = cc in no)
it_is (OfNumber n) (At q) h = absurd (let no : ⊥ = cc in no)
it_is (OfName g) (Name k) h = let same : k ≡ g = grind (arith, nat_tests) in ap (λ (m : ℕ). Name m) same
it_is (OfName g) (Number n) h = absurd (let no : ⊥ = cc in no)
it_is (OfName g) (At q) h = absurd (let no : ⊥ = cc in no)

value_same : (globals : List Value) (r : ℕ) (ev el : Values ℕ) → Agree (is_other r) ev el → (a : Operand ℕ) → operand_keeps (is_other r) a ≡ true → value_of globals el a ≡ value_of globals ev a
value_same globals r ev el agrees (At q) h = agrees q h
value_same globals r ev el agrees (Number n) h = refl
value_same globals r ev el agrees (Name g) h = refl

-- where the constant is held its register has its value
abbrev Has : List Value → Plan → Bool → Values ℕ → Type 0
Has globals p h el = h ≡ true → el p.register ≡ constant_value globals p.constant

replaced_same : (globals : List Value) (p : Plan) (h : Bool) (ev el : Values ℕ) → Agree (is_other p.register) ev el → Has globals p h el → (a : Operand ℕ) → operand_keeps (is_other p.register) a ≡ true → SameValue globals ev el (replaced p h) a
replaced_same globals p h ev el agrees has a keeps = by (h && is_it p.constant a) refl
  where
    by : (c : Bool) → (h && is_it p.constant a) ≡ c → value_of globals el (if c then At p.register else a) ≡ value_of globals ev a
    by true e =
        let s = and_parts h (is_it p.constant a) e in
        has s.0 ∙ sym (constant_same globals ev p.constant) ∙ ap (value_of globals ev) (sym (it_is p.constant a s.1))
    by false e = value_same globals p.register ev el agrees a keeps

record Held (globals : List Value) (p : Plan) (has : Bool) (before after : Values ℕ) : Type 0 where
  agrees : Agree (is_other p.register) before after
  value : Has globals p has after

abbrev claims : Plan → Claims
claims p = record { Claim = Bool; holds = λ has globals memory before after. Held globals p has before after; arrives = λ has k n. (n ≡ k) × (has ≡ is_held p k) }

-- ---- blocks

abbrev block_of : Plan → ℕ → Block ℕ → Block ℕ
block_of p k b = held_block p (is_held p k) (is_set p k) b

block_from : (p : Plan) (k : ℕ) (blocks : List (Block ℕ)) (j : ℕ) (b : Block ℕ) → slice_get blocks j ≡ Some b → slice_get (with_blocks p k blocks) j ≡ Some (block_of p (k + j) b)
block_from p k [] j b e = absurd (let no : ⊥ = cc in no)
block_from p k (d ∷ blocks) zero b e =
    let same : d ≡ b = cc in
    ap (λ (x : Block ℕ). Some (block_of p k x)) same ∙ ap (λ m. Some (block_of p m b)) (let z : k ≡ k + 0 = omega arith in z)
block_from p k (d ∷ blocks) (suc j) b e = block_from p (k + 1) blocks j b e ∙ ap (λ m. Some (block_of p m b)) (let z : (k + 1) + j ≡ k + suc j = omega arith in z)

block_at : (p : Plan) (v : Code ℕ) (j : ℕ) (b : Block ℕ) → slice_get v.blocks j ≡ Some b → slice_get (with_constant p v).blocks j ≡ Some (block_of p j b)
block_at p v j b e = block_from p 0 v.blocks j b e ∙ ap (λ m. Some (block_of p m b)) (let z : 0 + j ≡ j = omega arith in z)

-- whether the register has the constant at the jump
abbrev has_at : Plan → ℕ → Bool
has_at p k = is_held p k || is_set p k

leads_from : (p : Plan) (k : ℕ) (blocks : List (Block ℕ)) (j : ℕ) (b : Block ℕ) → leads_well p k blocks ≡ true → slice_get blocks j ≡ Some b → list_all (may_lead p (has_at p (k + j))) (successors b.jump) ≡ true
leads_from p k [] j b h e = absurd (let no : ⊥ = cc in no)
leads_from p k (d ∷ blocks) zero b h e =
    let same : d ≡ b = cc in
    let s = and_parts (list_all (may_lead p (has_at p k)) (successors d.jump)) (leads_well p (k + 1) blocks) h in
    ap (λ m. list_all (may_lead p (has_at p m)) (successors b.jump)) (let z : k + 0 ≡ k = omega arith in z) ∙ ap (λ (x : Block ℕ). list_all (may_lead p (has_at p k)) (successors x.jump)) (sym same) ∙ s.0
leads_from p k (d ∷ blocks) (suc j) b h e =
    let s = and_parts (list_all (may_lead p (has_at p k)) (successors d.jump)) (leads_well p (k + 1) blocks) h in
    ap (λ m. list_all (may_lead p (has_at p m)) (successors b.jump)) (let z : k + suc j ≡ (k + 1) + j = omega arith in z) ∙ leads_from p (k + 1) blocks j b s.1 e

leads_at : (p : Plan) (v : Code ℕ) (j : ℕ) (b : Block ℕ) → leads_well p 0 v.blocks ≡ true → slice_get v.blocks j ≡ Some b → list_all (may_lead p (has_at p j)) (successors b.jump) ≡ true
leads_at p v j b h e = ap (λ m. list_all (may_lead p (has_at p m)) (successors b.jump)) (let z : j ≡ 0 + j = omega arith in z) ∙ leads_from p 0 v.blocks j b h e

-- what `is_safe` says
record Safe (p : Plan) (v : Code ℕ) : Type 0 where
  spared : list_all (block_keeps (is_other p.register)) v.blocks ≡ true
  start : is_held p 0 ≡ false
  leads : leads_well p 0 v.blocks ≡ true

safe : (p : Plan) (v : Code ℕ) → is_safe p v ≡ true → Safe p v
safe p v h =
    let s = and_parts _ (not (is_held p 0) && leads_well p 0 v.blocks) h in
    let t = and_parts (not (is_held p 0)) (leads_well p 0 v.blocks) s.1 in
    record { spared = (and_parts _ (list_all (block_keeps (is_other p.register)) v.blocks) s.0).1; start = not-true (is_held p 0) t.0; leads = t.1 }

-- ---- lines and jumps

-- what a line leaves that names the register nowhere
line_follows : (p : Plan) (held : Bool) (l : Line ℕ) → line_keeps (is_other p.register) l ≡ true → Alike (claims p) held held l (with_line (replaced p held) l)
line_follows p held l spares globals memory ev el h =
    let r : ℕ = p.register in
    let m : Line ℕ = with_line (replaced p held) l in
    let writes : line_writes m ≡ line_writes l = writes_stay (replaced p held) l in
    lines_alike (λ next before after. Held globals p held before after) globals memory ev el l m
    (λ works. act_same globals memory ev el (replaced p held) l
    (reads_named (is_other r) (SameValue globals ev el (replaced p held)) (replaced_same globals p held ev el h.agrees h.value) l spares))
    (λ o next may. subst (λ (w : Option ℕ). Held globals p held (written (line_writes l) o ev) (written w o el)) (sym writes)
    (record {
      agrees = both_write (is_other r) (line_writes l) o ev el h.agrees;
      value = λ is. unwritten (line_writes l) o el r (writes_only (is_other r) l r spares (ap not (let same : nat_eq r r ≡ true = grind (arith, nat_tests) in same))) ∙ h.value is;
    }))

-- the register is set
set_comes : (p : Plan) (held : Bool) → MayCome (claims p) held true (Set p.register (operand_of p.constant))
set_comes p held globals memory ev el h =
    let r : ℕ = p.register in
    let o : Option Value = value_of globals el (operand_of p.constant) in (
      o,
      (
        refl,
        record {
          agrees = second_writes (is_other r) r o ev el (ap not (let same : nat_eq r r ≡ true = grind (arith, nat_tests) in same)) h.agrees;
          value = λ is. now_holds r o el ∙ constant_same globals el p.constant;
        },
      ),
    )

led : (a b : Bool) → (a || not b) ≡ true → b ≡ true → a ≡ true
led true b h e = refl
led false true h e = absurd (let no : ⊥ = cc in no)
led false false h e = absurd (let no : ⊥ = cc in no)

each_target : (test : ℕ → Bool) (j : Jump ℕ) → list_all test (successors j) ≡ true → LeadsTo (λ k. test k ≡ true) j
each_target test (Goto k) h = (and_parts (test k) true h).0
each_target test (Branch on met otherwise) h =
    let s = and_parts (test met) (list_all test (otherwise ∷ [])) h in (s.0, (and_parts (test otherwise) true s.1).0)
each_target test (Return a) h = tt
each_target test Halt h = tt

-- where the register has the constant if it is held, and leads to blocks that may hold it
jump_follows : (p : Plan) (v : Code ℕ) (held has : Bool) (j : Jump ℕ) → (held ≡ true → has ≡ true) → jump_keeps (is_other p.register) j ≡ true → list_all (may_lead p has) (successors j) ≡ true
    → LeadAlike (claims p) v.result has j (with_jump (replaced p held) j)
jump_follows p v held has j more spares leads globals memory ev el h =
    jump_put (claims p) globals memory ev el v.result (replaced p held) j
    (jump_reads_named (is_other p.register) (SameValue globals ev el (replaced p held)) (replaced_same globals p held ev el h.agrees (λ is. h.value (more is))) j spares)
    (leads_more (λ k. may_lead p has k ≡ true) (Arriving (claims p) globals memory ev el (λ k. k))
    (λ k may. (is_held p k, ((refl, refl), record { agrees = h.agrees; value = λ is. h.value (led has (is_held p k) may is) }))) j (each_target (may_lead p has) j leads))

-- ---- the code follows

module _ (p : Plan) (v : Code ℕ) (held : Bool) where
  end_follows : (set : Bool) (j : Jump ℕ) → jump_keeps (is_other p.register) j ≡ true → list_all (may_lead p (held || set)) (successors j) ≡ true
      → Follows (claims p) v (with_constant p v) held [] j (setting p set) (with_jump (replaced p held) j)
  end_follows false j spares leads =
      let same : (held || false) ≡ held = or_false held in
      Jumps (jump_follows p v held held j (λ is. is) spares (ap (λ b. list_all (may_lead p b) (successors j)) (sym same) ∙ leads))
    where
      or_false : (b : Bool) → (b || false) ≡ b
      or_false true = refl
      or_false false = refl
  end_follows true j spares leads =
      Come (set_comes p held)
      (Jumps (jump_follows p v held true j (λ is. refl) spares (ap (λ b. list_all (may_lead p b) (successors j)) (sym (or_right held true refl)) ∙ leads)))

  lines_follow : (set : Bool) (lines : List (Line ℕ)) (j : Jump ℕ) → list_all (line_keeps (is_other p.register)) lines ≡ true → jump_keeps (is_other p.register) j ≡ true
      → list_all (may_lead p (held || set)) (successors j) ≡ true
      → Follows (claims p) v (with_constant p v) held lines j (map (with_line (replaced p held)) lines ++ setting p set) (with_jump (replaced p held) j)
  lines_follow set [] j all spares leads = end_follows set j spares leads
  lines_follow set (l ∷ lines) j all spares leads =
      let s = and_parts (line_keeps (is_other p.register) l) (list_all (line_keeps (is_other p.register)) lines) all in
      Both (line_follows p held l s.0) (lines_follow set lines j s.1 spares leads)

rewrites : (p : Plan) (v : Code ℕ) → Safe p v → Rewrites (claims p) v (with_constant p v)
rewrites p v safe =
    record {
      result = refl;
      first = false;
      arrives = (refl, sym safe.start);
      begins = λ globals i args. record { agrees = λ r e. refl; value = λ is. absurd (let never : ⊥ = cc in never) };
      follows = λ has k n arrives b at.
          let own = and_parts (list_all (line_keeps (is_other p.register)) b.lines) (jump_keeps (is_other p.register) b.jump) (all_at (block_keeps (is_other p.register)) v.blocks k b safe.spared at) in (
            block_of p k b,
            (
              ap (slice_get (with_constant p v).blocks) arrives.0 ∙ block_at p v k b at,
              subst (λ (x : Bool). Follows (claims p) v (with_constant p v) x b.lines b.jump (block_of p k b).lines (block_of p k b).jump) (sym arrives.1)
                  (lines_follow p v (is_held p k) (is_set p k) b.lines b.jump own.0 own.1 (leads_at p v k b safe.leads at)),
            ),
          );
    }

pub runs : (p : Plan) (v : Code ℕ) → is_safe p v ≡ true → (globals : List Value)
    → KeepsCode (classes_in v.params) (begin virtual v) (step virtual globals v) (begin virtual (with_constant p v)) (step virtual globals (with_constant p v))
runs p v h globals = rewrites_keep (claims p) v (with_constant p v) (rewrites p v (safe p v h)) globals
