-- Code with more operations in its blocks does what the code did: the registers that there were hold the same.
use Rattle.std.proofs.Common.{◌≡◌, ℕ, zero, suc, true, false, nat_le, List, [], ◌∷◌, Option, Some, slice_get, refl, sym, ap, subst, arith}
use Rattle.std.specs.List.{list_all}
use Rattle.std.proofs.lemmas.Bool.{and_parts}
use Rattle.std.proofs.lemmas.Bool.Decides.{nat_tests}
use Rattle.il_ast.specs.declared.value.Value.{Value}
use Rattle.il_ast.specs.Prelude.{Memory, KeepsCode}
use Rattle.vcode.specs.declared.place.Operand.{Operand}
use Rattle.vcode.specs.declared.place.Operand.TheVariants.{At, Number, Name}
use Rattle.vcode.specs.declared.line.Line.{Line}
use Rattle.vcode.specs.declared.line.Line.TheVariants.{Tick, Set, Operate, Load, Store, Alloc, Blit, Call}
use Rattle.vcode.specs.declared.line.Jump.{Jump}
use Rattle.vcode.specs.declared.line.Jump.TheVariants.{Goto, Branch, Return, Halt}
use Rattle.vcode.specs.declared.code.Block.{Block}
use Rattle.vcode.specs.declared.code.Code.{Code}
use Rattle.vcode.specs.Prelude.{Values, virtual, unknown, classes_in, operand_keeps, line_keeps, jump_keeps, block_keeps, is_below, begin, step, bound, value_of, operated, line_writes, Claims, Alike, MayCome, LeadAlike, Follows, Jumps, Both, Come, Rewrites}
use Rattle.vcode.proofs.SameReads.{SameValue}
use Rattle.vcode.proofs.SameActs.{reads_named, jump_reads_named, act_agrees}
use Rattle.vcode.proofs.Alike.{lines_alike}
use Rattle.vcode.proofs.Writing.{Agree, both_write, second_writes}
use Rattle.vcode.proofs.Leading.{LeadsTo, Arriving, jump_itself_alike}
use Rattle.vcode.proofs.Rewriting.{rewrites_keep}
use Rattle.code_motion.specs.Longer.{is_extra, AreLonger, NoLines, Own, Extra, IsLonger, AllLonger}

-- ---- what is claimed

abbrev claims : ℕ → Claims
claims n = record { Claim = Unit {0}; holds = λ q globals memory before after. Agree (is_below n) before after; arrives = λ q k m. m ≡ k }

value_same : (n : ℕ) (globals : List Value) (before after : Values ℕ) → Agree (is_below n) before after → (a : Operand ℕ) → operand_keeps (is_below n) a ≡ true → SameValue globals before after (λ x. x) a
value_same n globals before after agrees (At r) h = agrees r h
value_same n globals before after agrees (Number k) h = refl
value_same n globals before after agrees (Name g) h = refl

-- ---- lines

own_line : (n : ℕ) (l : Line ℕ) → line_keeps (is_below n) l ≡ true → Alike (claims n) tt tt l l
own_line n l low globals memory before after agrees =
    lines_alike (λ next x y. Agree (is_below n) x y) globals memory before after l l
    (λ works. act_agrees globals memory before after l (reads_named (is_below n) (SameValue globals before after (λ x. x)) (value_same n globals before after agrees) l low))
    (λ o next may. both_write (is_below n) (line_writes l) o before after agrees)

not_below : (n r : ℕ) → nat_le n r ≡ true → is_below n r ≡ false
not_below n r h = grind (arith, nat_tests)

extra_comes : (n m : ℕ) (l : Line ℕ) → is_extra n m l ≡ true → MayCome (claims n) tt tt l
extra_comes n m (Operate to op a b) h = λ globals memory before after agrees.
    let o : Option Value = operated memory op (value_of globals after a) (value_of globals after b) in
    let s = and_parts (nat_le n to) _ h in
    (o, (refl, second_writes (is_below n) to o before after (not_below n to s.0) agrees))
extra_comes n m (Tick turn w) h = absurd (let no : ⊥ = cc in no)
extra_comes n m (Set to a) h = absurd (let no : ⊥ = cc in no)
extra_comes n m (Load to op at) h = absurd (let no : ⊥ = cc in no)
extra_comes n m (Store size a at) h = absurd (let no : ⊥ = cc in no)
extra_comes n m (Alloc to size) h = absurd (let no : ⊥ = cc in no)
extra_comes n m (Blit from to count) h = absurd (let no : ⊥ = cc in no)
extra_comes n m (Call to callee args) h = absurd (let no : ⊥ = cc in no)

leads_all : (n : ℕ) (globals : List Value) (memory : Memory) (before after : Values ℕ) → Agree (is_below n) before after → (j : Jump ℕ) → LeadsTo (Arriving (claims n) globals memory before after (λ k. k)) j
leads_all n globals memory before after agrees (Goto k) = (tt, (refl, agrees))
leads_all n globals memory before after agrees (Branch on met otherwise) = ((tt, (refl, agrees)), (tt, (refl, agrees)))
leads_all n globals memory before after agrees (Return a) = tt
leads_all n globals memory before after agrees Halt = tt

own_jump : (n : ℕ) (v : Code ℕ) (j : Jump ℕ) → jump_keeps (is_below n) j ≡ true → LeadAlike (claims n) v.result tt j j
own_jump n v j low globals memory before after agrees =
    jump_itself_alike (claims n) globals memory before after v.result j
    (jump_reads_named (is_below n) (SameValue globals before after (λ x. x)) (value_same n globals before after agrees) j low) (leads_all n globals memory before after agrees j)

-- ---- the code follows

module _ (n m : ℕ) (v w : Code ℕ) where
  lines_follow : {lines new : List (Line ℕ)} (j : Jump ℕ) → AreLonger n m lines new → list_all (line_keeps (is_below n)) lines ≡ true → jump_keeps (is_below n) j ≡ true → Follows (claims n) v w tt lines j new j
  lines_follow j NoLines all low = Jumps (own_jump n v j low)
  lines_follow j (Own {l = l} {lines = lines} rest) all low =
      let s = and_parts (line_keeps (is_below n) l) (list_all (line_keeps (is_below n)) lines) all in Both (own_line n l s.0) (lines_follow j rest s.1 low)
  lines_follow j (Extra {m = k} fits rest) all low = Come (extra_comes n m k fits) (lines_follow j rest all low)

  block_follows : (b d : Block ℕ) → IsLonger n m b d → block_keeps (is_below n) b ≡ true → Follows (claims n) v w tt b.lines b.jump d.lines d.jump
  block_follows b d is named =
      let s = and_parts (list_all (line_keeps (is_below n)) b.lines) (jump_keeps (is_below n) b.jump) named in
      subst (λ (j : Jump ℕ). Follows (claims n) v w tt b.lines b.jump d.lines j) (sym is.jump) (lines_follow b.jump is.lines s.0 s.1)

  blocks_follow : (blocks new : List (Block ℕ)) → AllLonger n m blocks new → list_all (block_keeps (is_below n)) blocks ≡ true → (k : ℕ) (b : Block ℕ) → slice_get blocks k ≡ Some b
      → (d : Block ℕ) × ((slice_get new k ≡ Some d) × Follows (claims n) v w tt b.lines b.jump d.lines d.jump)
  blocks_follow [] new all named k b e = absurd (let no : ⊥ = cc in no)
  blocks_follow (c ∷ blocks) [] all named k b e = absurd all
  blocks_follow (c ∷ blocks) (d ∷ new) all named zero b e =
      let same : c ≡ b = cc in
      let s = and_parts (block_keeps (is_below n) c) (list_all (block_keeps (is_below n)) blocks) named in
      (d, (refl, subst (λ (x : Block ℕ). Follows (claims n) v w tt x.lines x.jump d.lines d.jump) same (block_follows c d all.0 s.0)))
  blocks_follow (c ∷ blocks) (d ∷ new) all named (suc k) b e = blocks_follow blocks new all.1 (and_parts (block_keeps (is_below n) c) (list_all (block_keeps (is_below n)) blocks) named).1 k b e

  rewrites : AllLonger n m v.blocks w.blocks → list_all (block_keeps (is_below n)) v.blocks ≡ true → w.result ≡ v.result → w.params ≡ v.params → Rewrites (claims n) v w
  rewrites all named result params =
      record {
        result = result;
        first = tt;
        arrives = refl;
        begins = λ globals i args r e. ap (λ ps. bound virtual unknown ps i.args r) params;
        follows = λ q k j arrives b e.
            subst (λ (x : ℕ). (d : Block ℕ) × ((slice_get w.blocks x ≡ Some d) × Follows (claims n) v w q b.lines b.jump d.lines d.jump)) (sym arrives) (blocks_follow v.blocks w.blocks all named k b e);
      }

  pub runs : AllLonger n m v.blocks w.blocks → list_all (block_keeps (is_below n)) v.blocks ≡ true → w.result ≡ v.result → w.params ≡ v.params → (globals : List Value)
      → KeepsCode (classes_in v.params) (begin virtual v) (step virtual globals v) (begin virtual w) (step virtual globals w)
  runs all named result params globals = rewrites_keep (claims n) v w (rewrites all named result params) globals
