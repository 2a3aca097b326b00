-- What a pass owes of the code that it makes, and what follows: the invariants of a function, and that it keeps the function that there was.
use Rattle.std.proofs.Common.{[], ◌∷◌, ◌≤◌, ◌≡◌, ℕ, Bool, true, List, length, refl, sym, ◌∙◌, ap, subst, arith}
use Rattle.std.specs.List.{list_all}
use Rattle.std.proofs.lemmas.Bool.{and_parts, and_from}
use Rattle.std.proofs.lemmas.Bool.Decides.{nat_tests}
use Rattle.il_ast.specs.declared.limits.TheConstants.{FUNCTION_WEIGHT, ALLOC_BYTES}
use Rattle.il_ast.specs.declared.value.Value.{Value}
use Rattle.il_ast.specs.Prelude.{KeepsCode, Coded, Keeps}
use Rattle.vcode.specs.Prelude.{Destination, Block, VFunc, with_these, Becomes, classes_in, virtual_code, block_keeps, is_below, virtual, leads_inside, area, code_weight, IsRegular, begin, step}
use Rattle.vcode.proofs.Measuring.{Within, Fit, Each, each_count, each_all, each_fits, still_within}

abbrev pub all_inside : List (Block ℕ) → Bool
all_inside blocks = list_all (λ (b : Block ℕ). leads_inside (length blocks) b.jump) blocks

-- of the blocks that a pass makes, which may name more registers: they take no more, their jumps lead to them, they name registers that there are, and the code keeps the function's
pub record Owed (v : VFunc) (registers : ℕ) (blocks : List (Block ℕ)) : Type 0 where
  pub more : v.registers ≤ registers
  pub fits : Fit v.code.blocks blocks
  pub inside : all_inside v.code.blocks ≡ true → all_inside blocks ≡ true
  pub names : list_all (block_keeps (is_below v.registers)) v.code.blocks ≡ true → list_all (block_keeps (is_below registers)) blocks ≡ true
  pub runs : (globals : List Value)
      → KeepsCode (classes_in v.code.params) (begin virtual v.code) (step virtual globals v.code) (begin virtual (with_these v.code blocks)) (step virtual globals (with_these v.code blocks))

-- a block in the place of another: it takes no more, leads to blocks that are there, and names registers that there are
pub record Serves (before after : ℕ) (b d : Block ℕ) : Type 0 where
  pub within : Within b d
  pub inside : (n : ℕ) → leads_inside n b.jump ≡ true → leads_inside n d.jump ≡ true
  pub names : block_keeps (is_below before) b ≡ true → block_keeps (is_below after) d ≡ true

-- blocks in one order, each in the place of another
pub owed_each : (v : VFunc) (registers : ℕ) (blocks : List (Block ℕ)) → v.registers ≤ registers → Each (Serves v.registers registers) v.code.blocks blocks
    → ((globals : List Value)
    → KeepsCode (classes_in v.code.params) (begin virtual v.code) (step virtual globals v.code) (begin virtual (with_these v.code blocks)) (step virtual globals (with_these v.code blocks)))
    → Owed v registers blocks
owed_each v registers blocks more each runs =
    let R = Serves v.registers registers in
    record {
      more = more;
      fits = each_fits R (λ b d one. one.within) each;
      inside = λ h.
          ap (λ n. list_all (λ (b : Block ℕ). leads_inside n b.jump) blocks) (each_count R each)
          ∙ each_all R (λ (b : Block ℕ). leads_inside (length v.code.blocks) b.jump) (λ (b : Block ℕ). leads_inside (length v.code.blocks) b.jump)
          (λ b d one. one.inside (length v.code.blocks)) each h;
      names = each_all R (block_keeps (is_below v.registers)) (block_keeps (is_below registers)) (λ b d one. one.names) each;
      runs = runs;
    }

still_below : (n m k : ℕ) → n ≤ m → is_below n k ≡ true → is_below m k ≡ true
still_below n m k more h = grind (arith, nat_tests)

params_below : (n m : ℕ) → n ≤ m → (params : List (Destination ℕ)) → list_all (λ (d : Destination ℕ). is_below n d.place) params ≡ true → list_all (λ (d : Destination ℕ). is_below m d.place) params ≡ true
params_below n m more [] h = refl
params_below n m more (d ∷ params) h =
    let s = and_parts (is_below n d.place) (list_all (λ (x : Destination ℕ). is_below n x.place) params) h in
    and_from (is_below m d.place) (list_all (λ (x : Destination ℕ). is_below m x.place) params) (still_below n m d.place more s.0) (params_below n m more params s.1)

pub becomes : (v : VFunc) (registers : ℕ) (blocks : List (Block ℕ)) → Owed v registers blocks → Becomes v registers blocks
becomes v registers blocks owed =
    let is : IsRegular v.code = v.regular in
    let named = and_parts (list_all (λ (d : Destination ℕ). is_below v.registers d.place) v.code.params) (list_all (block_keeps (is_below v.registers)) v.code.blocks) v.known in
    record {
      regular =
          record {
            few_params = is.few_params;
            inside = owed.inside is.inside;
            first = owed.fits.makes is.first;
            small = still_within (area (with_these v.code blocks)) (area v.code) ALLOC_BYTES owed.fits.area is.small;
            paid = owed.fits.paid is.paid;
            paced = owed.fits.paced is.paced;
            few_args = owed.fits.few is.few_args;
          };
      light = still_within (code_weight (with_these v.code blocks)) (code_weight v.code) FUNCTION_WEIGHT owed.fits.weight v.light;
      known =
          and_from (list_all (λ (d : Destination ℕ). is_below registers d.place) v.code.params) (list_all (block_keeps (is_below registers)) blocks)
          (params_below v.registers registers owed.more v.code.params named.0) (owed.names named.1);
      keeps = record { params = refl; result = refl; runs = owed.runs };
    }

-- ... where the blocks are known under another name
pub becomes_these : (v : VFunc) (registers : ℕ) (these blocks : List (Block ℕ)) → Owed v registers these → blocks ≡ these → Becomes v registers blocks
becomes_these v registers these blocks owed is = subst (λ (bs : List (Block ℕ)). Becomes v registers bs) (sym is) (becomes v registers these owed)

-- ---- a function that stays as it is

pub keeps_itself : (c : Coded) → Keeps c c
keeps_itself c = record { params = refl; result = refl; runs = λ globals log i o args fine n logged. (n, logged) }

pub becomes_itself : (v : VFunc) (blocks : List (Block ℕ)) → blocks ≡ v.code.blocks → Becomes v v.registers blocks
becomes_itself v blocks is =
    subst (λ (bs : List (Block ℕ)). Becomes v v.registers bs) (sym is)
    (record { regular = v.regular; light = v.light; known = v.known; keeps = keeps_itself (virtual_code v) })
