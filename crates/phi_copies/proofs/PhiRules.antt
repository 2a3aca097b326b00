-- What the rules of a good text say of the phis of a block: they assign distinct temporaries, and a long one reads no word.
use Rattle.std.proofs.Common.{◌≡◌, ◌≢◌, inl, inr, ℕ, ◌+◌, ◌<◌, ◌≤◌, Bool, true, false, not, cond, nat_eq, nat_lt, ◌&&◌, ◌||◌, List, [], ◌∷◌, ◌++◌, length, refl, sym, ◌∙◌, ap, subst, arith, Option, Some, None}
use Rattle.std.specs.List.{flat_map, find, list_any}
use Rattle.std.proofs.lemmas.Bool.Decides.{nat_tests}
use Rattle.std.proofs.lemmas.List.Sums.{sum_by-cons}
use Rattle.std.proofs.lemmas.Bool.{and_from, not-false}
use Rattle.il_ast.specs.declared.operation.Class.TheVariants.{W, L}
use Rattle.il_ast.specs.declared.operand.Val.TheVariants.{Temp}
use Rattle.il_ast.specs.declared.block.Phi.{Phi}
use Rattle.il_ast.specs.declared.block.PhiArg.{PhiArg}
use Rattle.il_ast.specs.declared.block.Block.{Block}
use Rattle.il_ast.specs.declared.function.Func.{Func}
use Rattle.il_ast.specs.Prelude.{temps_of, temps_in_block, temps_in_phi, temps_in_value, same_class}
use Rattle.il_types.specs.declared.rule.Rule.TheVariants.{OperandFits, PhiCoversPredecessors}
use Rattle.il_types.specs.declared.site.Definer.{Definer}
use Rattle.il_types.specs.declared.site.Operand.{Operand}
use Rattle.il_types.specs.declared.site.Site.{Site}
use Rattle.il_types.specs.Prelude.{when, or_else, first, times, first_repeated, phi_sites, fits, in_insts, has_wrong_result, uncovered_in, is_given, definer, param_definers, phi_definers, inst_definers, block_definers, definers_of, operand_at, phi_operands, inst_operands, end_operands, block_operands, operands_of}
use Rattle.phi_copies.specs.Good.{IsGoodFunction}
use Rattle.phi_copies.specs.Source.{value_or_zero, source}
use Rattle.phi_copies.proofs.EdgePlaces.{AllLess, come_up}
use Rattle.phi_copies.proofs.Members.{Among, among_left, among_right, flat_among, Apart}

-- ---- rules that nothing breaks

pub neither_first : (a b : Option ℕ) → or_else a b ≡ None → a ≡ None
neither_first None b h = refl
neither_first (Some n) b h = absurd (let none : ⊥ = cc in none)

pub not_broken : (b : Bool) (line : ℕ) → when b line ≡ None → b ≡ false
not_broken true line h = absurd (let none : ⊥ = cc in none)
not_broken false line h = refl

pub neither_second : (a b : Option ℕ) → or_else a b ≡ None → b ≡ None
neither_second None b h = h
neither_second (Some n) b h = absurd (let none : ⊥ = cc in none)

pub none_among : {A : Type 0} (g : A → Option ℕ) (xs : List A) (x : A) → first g xs ≡ None → Among x xs → g x ≡ None
none_among g [] x h a = absurd a
none_among g (y ∷ xs) x h (inl e) = ap g e ∙ neither_first (g y) (first g xs) h
none_among g (y ∷ xs) x h (inr a) = none_among g xs x (neither_second (g y) (first g xs) h) a

-- ---- the phis of a block assign distinct temporaries

often : (n : ℕ) (p : Phi) (ps : List Phi) → times n (phi_sites (p ∷ ps)) ≡ cond (nat_eq p.to.temp n) 1 0 + times n (phi_sites ps)
often n p ps = sum_by-cons (λ (s : Site). cond (nat_eq s.number n) 1 0) (record { line = p.line; number = p.to.temp }) (phi_sites ps)

once_named : (ps : List Phi) (q : Phi) (n : ℕ) → Among q ps → n ≡ q.to.temp → 1 ≤ times n (phi_sites ps)
once_named [] q n a e = absurd a
once_named (p ∷ ps) q n (inl same) e =
    let here : p.to.temp ≡ n = sym (e ∙ ap (λ (x : Phi). x.to.temp) same) in
    let yes1 : nat_eq p.to.temp n ≡ true = grind (arith, nat_tests) in
    let one : ◌≡◌ {A = ℕ} (cond (nat_eq p.to.temp n) 1 0) 1 = ap (λ b. cond b 1 0) yes1 in
    let all = often n p ps in
    omega (arith, all, one)
once_named (p ∷ ps) q n (inr a) e =
    let more = once_named ps q n a e in
    let all = often n p ps in
    omega (arith, all, more)

abbrev pub GoApart : Phi → Phi → Type 0
GoApart p q = p.to.temp ≢ q.to.temp

apart_of : (ps : List Phi) → ((p : Phi) → Among p ps → times p.to.temp (phi_sites ps) ≤ 1) → Apart GoApart ps
apart_of [] each = tt
apart_of (p ∷ ps) each = (
  λ q a e.
      let few = each p (inl refl) in
      let all = often p.to.temp p ps in
      let yes1 : nat_eq p.to.temp p.to.temp ≡ true = grind (arith, nat_tests) in
      let one : ◌≡◌ {A = ℕ} (cond (nat_eq p.to.temp p.to.temp) 1 0) 1 = ap (λ b. cond b 1 0) yes1 in
      let more = once_named ps q p.to.temp a e in
      let none : ⊥ = omega (arith, few, all, one, more) in
      none,
  apart_of ps (λ q a. let few = each q (inr a) in let all = often q.to.temp p ps in omega (arith, few, all)),
)

site_of : (ps : List Phi) (p : Phi) → Among p ps → Among (record { line = p.line; number = p.to.temp }) (phi_sites ps)
site_of [] p a = absurd a
site_of (q ∷ ps) p (inl e) = inl (ap (λ (x : Phi). record { line = x.line; number = x.to.temp }) e)
site_of (q ∷ ps) p (inr a) = inr (site_of ps p a)

pub phis_apart : (f : Func) → IsGoodFunction f → (b : Block) → Among b f.blocks → Apart GoApart b.phis
phis_apart f good b a =
    let right = neither_first (first_repeated (phi_sites b.phis)) _ (none_among (uncovered_in f.blocks) f.blocks b (good.rules PhiCoversPredecessors) a) in
    apart_of b.phis
    (λ p h.
    let once = not_broken (nat_lt 1 (times p.to.temp (phi_sites b.phis))) p.line (none_among (λ (s : Site). when (nat_lt 1 (times s.number (phi_sites b.phis))) s.line) (phi_sites b.phis) (record { line = p.line; number = p.to.temp }) right (site_of b.phis p h)) in
    let few : times p.to.temp (phi_sites b.phis) ≤ 1 = grind (arith, nat_tests) in
    few)

-- ---- what a phi takes is one of its arguments

record Argument (p : Phi) (t : ℕ) : Type 0 where
  arg : PhiArg
  there : Among arg p.args
  value : arg.value ≡ Temp t

pub find_among : (from : ℕ) (args : List PhiArg) (a : PhiArg) → find (λ (x : PhiArg). nat_eq x.from from) args ≡ Some a → Among a args
find_among from [] a h = absurd (let none : ⊥ = cc in none)
find_among from (x ∷ args) a h = by (nat_eq x.from from) h (find_among from args a)
  where
    by : (b : Bool) → cond b (Some x) (find (λ (y : PhiArg). nat_eq y.from from) args) ≡ Some a → (find (λ (y : PhiArg). nat_eq y.from from) args ≡ Some a → Among a args) → Among a (x ∷ args)
    by true e rest = inl (let same : a ≡ x = cc in same)
    by false e rest = inr (rest e)

argument : (from : ℕ) (p : Phi) (t : ℕ) → source from p ≡ Temp t → Argument p t
argument from p t h = by (find (λ (x : PhiArg). nat_eq x.from from) p.args) refl h
  where
    by : (o : Option PhiArg) → find (λ (x : PhiArg). nat_eq x.from from) p.args ≡ o → value_or_zero o ≡ Temp t → Argument p t
    by None e g = absurd (let none : ⊥ = cc in none)
    by (Some a) e g = record { arg = a; there = find_among from p.args a e; value = g }

-- ---- and it is a temporary of the function

less_among : (n : ℕ) (xs : List ℕ) (x : ℕ) → AllLess n xs → Among x xs → x < n
less_among n [] x h a = absurd a
less_among n (y ∷ xs) x h (inl e) = subst (λ k. k < n) (sym e) h.0
less_among n (y ∷ xs) x h (inr a) = less_among n xs x h.1 a

phi_temp_less : (f : Func) (b : Block) (p : Phi) (t : ℕ) → Among b f.blocks → Among p b.phis → Among t (temps_in_phi p) → t < length f.temps
phi_temp_less f b p t a h i =
    less_among (length f.temps) (temps_of f.params f.blocks) t (come_up 0 (length f.temps) (temps_of f.params f.blocks) f.temps_in_order).1
    (among_right t _ (flat_map temps_in_block f.blocks)
    (flat_among temps_in_block f.blocks b t a (among_left t (flat_map temps_in_phi b.phis) _ (flat_among temps_in_phi b.phis p t h i))))

pub goes_own : (f : Func) (b : Block) (p : Phi) → Among b f.blocks → Among p b.phis → p.to.temp < length f.temps
goes_own f b p a h = phi_temp_less f b p p.to.temp a h (inl refl)

pub reads_own : (f : Func) (b : Block) (from : ℕ) (p : Phi) (t : ℕ) → Among b f.blocks → Among p b.phis → source from p ≡ Temp t → t < length f.temps
reads_own f b from p t a h s =
    let r = argument from p t s in
    phi_temp_less f b p t a h (inr (flat_among (λ (x : PhiArg). temps_in_value x.value) p.args r.arg t r.there (subst (λ v. Among t (temps_in_value v)) (sym r.value) (inl refl))))

-- ---- a long phi reads no word

pub any_among : {A : Type 0} (g : A → Bool) (xs : List A) (x : A) → g x ≡ true → Among x xs → list_any g xs ≡ true
any_among g [] x h a = absurd a
any_among g (y ∷ xs) x h (inl e) = ap (λ b. b || list_any g xs) (ap g (sym e) ∙ h)
any_among g (y ∷ xs) x h (inr a) = by (g y) (any_among g xs x h a)
  where
    by : (b : Bool) → list_any g xs ≡ true → (b || list_any g xs) ≡ true
    by true e = refl
    by false e = e

given_word : (f : Func) (b : Block) (q : Phi) → Among b f.blocks → Among q b.phis → q.to.class ≡ W → is_given W q.to.temp (definers_of f) ≡ true
given_word f b q a h w =
    let d : Definer = definer q.line q.to in
    let yes1 : nat_eq q.to.temp q.to.temp ≡ true = grind (arith, nat_tests) in
    any_among (λ (e : Definer). nat_eq e.temp q.to.temp && same_class e.class W) (definers_of f) d
    (and_from (nat_eq q.to.temp q.to.temp) (same_class q.to.class W) yes1 (ap (λ c. same_class c W) w))
    (among_right d (flat_map param_definers f.params) (flat_map block_definers f.blocks)
    (flat_among block_definers f.blocks b d a (among_left d (flat_map phi_definers b.phis) (flat_map inst_definers b.insts) (flat_among phi_definers b.phis q d h (inl refl)))))

pub reads_long : (f : Func) → IsGoodFunction f → (b : Block) (from : ℕ) (p q : Phi) (t : ℕ) → Among b f.blocks → Among p b.phis → Among q b.phis → p.to.class ≡ L → source from p ≡ Temp t → q.to.class ≡ W → t ≢ q.to.temp
reads_long f good b from p q t a h i long s word same =
    let r = argument from p t s in
    let o : Operand = operand_at p.line p.to.class r.arg.value in
    let there : Among o (operands_of f) =
    flat_among block_operands f.blocks b o a
    (among_left o (flat_map phi_operands b.phis) (flat_map inst_operands b.insts ++ end_operands b.jump)
    (flat_among phi_operands b.phis p o h (flat_among (λ (x : PhiArg). operand_at p.line p.to.class x.value ∷ []) p.args r.arg o r.there (inl refl)))) in
    let fit = neither_first (first (λ (x : Operand). when (not (fits (definers_of f) x.class x.value)) x.line) (operands_of f)) (in_insts has_wrong_result f.blocks) (good.rules OperandFits) in
    let fitting : fits (definers_of f) p.to.class r.arg.value ≡ true = not-false _ (not_broken _ o.line (none_among (λ (x : Operand). when (not (fits (definers_of f) x.class x.value)) x.line) (operands_of f) o fit there)) in
    let no_word : not (is_given W t (definers_of f)) ≡ true = ap (λ v. fits (definers_of f) L v) (sym r.value) ∙ ap (λ c. fits (definers_of f) c r.arg.value) (sym long) ∙ fitting in
    let given : is_given W t (definers_of f) ≡ true = ap (λ u. is_given W u (definers_of f)) same ∙ given_word f b q a i word in
    let none : not true ≡ true = ap not (sym given) ∙ no_word in
    cc
