-- Code with copies of blocks in the place of jumps to them does what the code did, in equal states.
use Rattle.std.proofs.Common.{◌≡◌, ℕ, zero, suc, Bool, true, false, List, [], ◌∷◌, ◌++◌, Option, Some, None, slice_get, refl, sym, ap, subst}
use Rattle.il_ast.specs.declared.operation.Class.{Class}
use Rattle.il_ast.specs.declared.value.Value.{Value}
use Rattle.il_ast.specs.Prelude.{Memory, KeepsCode}
use Rattle.vcode.specs.declared.place.Operand.{Operand}
use Rattle.vcode.specs.declared.line.Line.{Line}
use Rattle.vcode.specs.declared.line.Jump.{Jump}
use Rattle.vcode.specs.declared.line.Jump.TheVariants.{Goto, Branch, Return, Halt}
use Rattle.vcode.specs.declared.code.Block.{Block}
use Rattle.vcode.specs.declared.code.Code.{Code}
use Rattle.vcode.specs.Prelude.{Values, virtual, classes_in, begin, step, value_of, line_writes, act, written, Claims, Alike, LeadAlike, Follows, Jumps, Both, FirstOn, Rewrites, with_these}
use Rattle.vcode.proofs.SameReads.{SameValue}
use Rattle.vcode.proofs.SameActs.{jump_reads_every}
use Rattle.vcode.proofs.Alike.{lines_alike}
use Rattle.vcode.proofs.Leading.{LeadsTo, Arriving, jump_itself_alike}
use Rattle.vcode.proofs.Rewriting.{rewrites_keep}
use Rattle.block_layout.specs.Joined.{with_tail, tail_of, longer, AllLonger}

-- registers hold the same
abbrev claims : Claims
claims = record { Claim = Unit {0}; holds = λ q globals memory before after. after ≡ before; arrives = λ q k n. n ≡ k }

-- ---- lines and jumps

line_follows : (l : Line ℕ) → Alike claims tt tt l l
line_follows l globals memory before after same =
    lines_alike (λ next ev el. el ≡ ev) globals memory before after l l (λ works. ap (λ (x : Values ℕ). act globals memory x l) same) (λ o next may. ap (written (line_writes l) o) same)

leads_all : (globals : List Value) (memory : Memory) (before after : Values ℕ) → after ≡ before → (j : Jump ℕ) → LeadsTo (Arriving claims globals memory before after (λ k. k)) j
leads_all globals memory before after same (Goto k) = (tt, (refl, same))
leads_all globals memory before after same (Branch on met otherwise) = ((tt, (refl, same)), (tt, (refl, same)))
leads_all globals memory before after same (Return a) = tt
leads_all globals memory before after same Halt = tt

jump_follows : (result : Option Class) (j : Jump ℕ) → LeadAlike claims result tt j j
jump_follows result j globals memory before after same =
    jump_itself_alike claims globals memory before after result j
    (jump_reads_every (SameValue globals before after (λ a. a)) (λ (a : Operand ℕ). ap (λ (x : Values ℕ). value_of globals x a) same) j) (leads_all globals memory before after same j)

-- ---- the code follows

module _ (v w : Code ℕ) where
  lines_follow : (lines : List (Line ℕ)) (j : Jump ℕ) → Follows claims v w tt lines j lines j
  lines_follow [] j = Jumps (jump_follows v.result j)
  lines_follow (l ∷ lines) j = Both (line_follows l) (lines_follow lines j)

  -- the first goes on into the block that the second has at its end
  on_follow : (lines : List (Line ℕ)) (n : ℕ) (t : Block ℕ) → slice_get v.blocks n ≡ Some t → Follows claims v w tt lines (Goto n) (lines ++ t.lines) t.jump
  on_follow [] n t at = FirstOn at (lines_follow t.lines t.jump)
  on_follow (l ∷ lines) n t at = Both (line_follows l) (on_follow lines n t at)

  abbrev FollowsTo : Block ℕ → Jump ℕ → Block ℕ → Type 0
  FollowsTo b j d = Follows claims v w tt b.lines j d.lines d.jump

  tail_follows : (b : Block ℕ) (n : ℕ) → b.jump ≡ Goto n → (o : Option (Block ℕ)) → slice_get v.blocks n ≡ o → FollowsTo b (Goto n) (with_tail b o)
  tail_follows b n is None at = subst (λ (x : Jump ℕ). FollowsTo b x b) is (lines_follow b.lines b.jump)
  tail_follows b n is (Some t) at = on_follow b.lines n t at

  jump_follows_on : (b : Block ℕ) (j : Jump ℕ) → b.jump ≡ j → FollowsTo b j (with_tail b (tail_of v.blocks j))
  jump_follows_on b (Goto n) is = tail_follows b n is (slice_get v.blocks n) refl
  jump_follows_on b (Branch on met otherwise) is = subst (λ (x : Jump ℕ). FollowsTo b x b) is (lines_follow b.lines b.jump)
  jump_follows_on b (Return a) is = subst (λ (x : Jump ℕ). FollowsTo b x b) is (lines_follow b.lines b.jump)
  jump_follows_on b Halt is = subst (λ (x : Jump ℕ). FollowsTo b x b) is (lines_follow b.lines b.jump)

  block_follows : (chosen : Bool) (b : Block ℕ) → FollowsTo b b.jump (longer v.blocks chosen b)
  block_follows false b = lines_follow b.lines b.jump
  block_follows true b = jump_follows_on b b.jump refl

  blocks_follow : (blocks new : List (Block ℕ)) → AllLonger v.blocks blocks new → (k : ℕ) (b : Block ℕ) → slice_get blocks k ≡ Some b
      → (d : Block ℕ) × ((slice_get new k ≡ Some d) × FollowsTo b b.jump d)
  blocks_follow [] new all k b e = absurd (let no : ⊥ = cc in no)
  blocks_follow (c ∷ blocks) [] all k b e = absurd all
  blocks_follow (c ∷ blocks) (d ∷ new) all zero b e =
      let same : c ≡ b = cc in
      (d, (refl, subst (λ (x : Block ℕ). FollowsTo x x.jump d) same (subst (λ (x : Block ℕ). FollowsTo c c.jump x) (sym all.0.1) (block_follows all.0.0 c))))
  blocks_follow (c ∷ blocks) (d ∷ new) all (suc k) b e = blocks_follow blocks new all.1 k b e

rewrites : (v : Code ℕ) (new : List (Block ℕ)) → AllLonger v.blocks v.blocks new → Rewrites claims v (with_these v new)
rewrites v new all =
    record {
      result = refl;
      first = tt;
      arrives = refl;
      begins = λ globals i args. refl;
      follows = λ q k n arrives b at.
          subst (λ (x : ℕ). (d : Block ℕ) × ((slice_get new x ≡ Some d) × Follows claims v (with_these v new) q b.lines b.jump d.lines d.jump)) (sym arrives)
          (blocks_follow v (with_these v new) v.blocks new all k b at);
    }

pub runs : (v : Code ℕ) (new : List (Block ℕ)) → AllLonger v.blocks v.blocks new → (globals : List Value)
    → KeepsCode (classes_in v.params) (begin virtual v) (step virtual globals v) (begin virtual (with_these v new)) (step virtual globals (with_these v new))
runs v new all globals = rewrites_keep claims v (with_these v new) (rewrites v new all) globals
