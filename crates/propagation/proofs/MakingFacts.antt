-- What is known goes on from line to line, and lines and blocks are made one after another.
use Rattle.std.proofs.Common.{◌≡◌, ℕ, ◌+◌, ◌<◌, Bool, true, false, not, ◌&&◌, nat_eq, nat_lt, if◌then◌else◌, List, [], ◌∷◌, zero, suc, length, get_or, drop, Option, Some, None, inl, refl, sym, ◌∙◌, ap, subst}
use Rattle.std.specs.Option.{option_map_or}
use Rattle.std.proofs.Math.Path.{fun_ext}
use Rattle.vcode.specs.declared.line.Line.{Line}
use Rattle.vcode.specs.declared.line.Jump.{Jump}
use Rattle.vcode.specs.declared.line.Jump.TheVariants.{Goto, Branch, Return, Halt}
use Rattle.vcode.specs.declared.code.Block.{Block}
use Rattle.vcode.specs.declared.line.Line.TheVariants.{Tick, Set, Operate, Load, Store, Alloc, Blit, Call}
use Rattle.vcode.proofs.Lists.{item_next}
use Rattle.cfg_live.specs.Registers.{line_writes}
use Rattle.propagation.specs.declared.constants.fact.Fact.{Fact}
use Rattle.propagation.specs.declared.constants.table.FactTable.{FactTable}
use Rattle.propagation.specs.declared.constants.claim.Entry.{Entry}
use Rattle.propagation.specs.FactTable.{Facts, fact_names, asks_memory, fact_below, kept_if, facts_of, changed, over}
use Rattle.propagation.specs.Forwarded.{claims_at, AreKnown, LeadsWell, known_at, IsPut, AreForwarded, IsForwarded, AllForwarded, changes_memory, fact_of, after}
use Rattle.il_ast.proofs.Truth.{equal_turned}

-- ---- what is known after a line

-- what a line does that writes register r
after_some : (n r : ℕ) (memory : Bool) (known : Option Fact) (fs : Facts) → ((f : Fact) → known ≡ Some f → (memory && asks_memory f) ≡ false) → (q : ℕ)
    → kept_if (λ f. nat_lt q n && (fact_below n f && (not (fact_names f r) && not (memory && asks_memory f)))) (if nat_eq r q then known else fs q) ≡ over n r known (changed memory fs) q
after_some n r memory known fs asks q = by (nat_eq r q) (nat_eq q r) (equal_turned r q)
  where
    test : Fact → Bool
    test f = nat_lt q n && (fact_below n f && (not (fact_names f r) && not (memory && asks_memory f)))

    less : Fact → Bool
    less f = nat_lt q n && (fact_below n f && not (fact_names f r))

    all : (a b c d : Bool) → d ≡ false → (a && (b && (c && not d))) ≡ (a && (b && c))
    all true true true d h = ap not h
    all true true false d h = refl
    all true false c d h = refl
    all false b c d h = refl

    one : (o : Option Fact) → ((f : Fact) → o ≡ Some f → (memory && asks_memory f) ≡ false) → kept_if test o ≡ kept_if less o
    one None h = refl
    one (Some f) h = ap (λ b. if b then Some f else None) (all (nat_lt q n) (fact_below n f) (not (fact_names f r)) (memory && asks_memory f) (h f refl))

    off : (a b c : Bool) → (a && (b && (c && false))) ≡ false
    off true true true = refl
    off true true false = refl
    off true false c = refl
    off false b c = refl

    on : (a b c : Bool) → (a && (b && (c && true))) ≡ (a && (b && c))
    on true true true = refl
    on true true false = refl
    on true false c = refl
    on false b c = refl

    old_one : (f : Fact) (d : Bool) → d ≡ not (memory && asks_memory f) → (if test f then Some f else None) ≡ kept_if less (if d then Some f else None)
    old_one f true e =
        ap (λ b. if b then Some f else None) (ap (λ d. nat_lt q n && (fact_below n f && (not (fact_names f r) && d))) (sym e) ∙ on (nat_lt q n) (fact_below n f) (not (fact_names f r)))
    old_one f false e =
        ap (λ b. if b then Some f else None) (ap (λ d. nat_lt q n && (fact_below n f && (not (fact_names f r) && d))) (sym e) ∙ off (nat_lt q n) (fact_below n f) (not (fact_names f r)))

    old : (o : Option Fact) → kept_if test o ≡ kept_if less (kept_if (λ f. not (memory && asks_memory f)) o)
    old None = refl
    old (Some f) = old_one f (not (memory && asks_memory f)) refl

    by : (a b : Bool) → a ≡ b → kept_if test (if a then known else fs q) ≡ kept_if less (if b then known else changed memory fs q)
    by true true e = one known asks
    by false false e = old (fs q)
    by true false e = cc
    by false true e = cc

-- what a line does that writes none
after_none : (n : ℕ) (memory : Bool) (fs : Facts) → ((r : ℕ) (f : Fact) → fs r ≡ Some f → (nat_lt r n && fact_below n f) ≡ true) → (q : ℕ)
    → kept_if (λ f. nat_lt q n && (fact_below n f && (not false && not (memory && asks_memory f)))) (fs q) ≡ changed memory fs q
after_none n memory fs low q = by (fs q) (low q)
  where
    both : (a b c : Bool) → (a && b) ≡ true → (a && (b && (true && c))) ≡ c
    both true true c h = refl
    both true false c h = cc
    both false b c h = cc

    by : (o : Option Fact) → ((f : Fact) → o ≡ Some f → (nat_lt q n && fact_below n f) ≡ true)
        → kept_if (λ f. nat_lt q n && (fact_below n f && (not false && not (memory && asks_memory f)))) o ≡ kept_if (λ f. not (memory && asks_memory f)) o
    by None h = refl
    by (Some f) h = ap (λ b. if b then Some f else None) (both (nat_lt q n) (fact_below n f) (not (memory && asks_memory f)) (h f refl))

-- a line that makes something known changes no memory
unasked : (l : Line ℕ) (f : Fact) → fact_of l ≡ Some f → (changes_memory l && asks_memory f) ≡ false
unasked (Tick turn w) f h = refl
unasked (Set to a) f h = refl
unasked (Operate to op a b) f h = refl
unasked (Load to op at) f h = refl
unasked (Store size a at) f h = absurd (let no : ⊥ = cc in no)
unasked (Alloc to size) f h = absurd (let no : ⊥ = cc in no)
unasked (Blit from to count) f h = absurd (let no : ⊥ = cc in no)
unasked (Call to callee args) f h = absurd (let no : ⊥ = cc in no)

pub after_write : (n : ℕ) (l : Line ℕ) (r : ℕ) (fs : Facts) → line_writes l ≡ Some r → (q : ℕ) → after n l fs q ≡ over n r (fact_of l) (changed (changes_memory l) fs) q
after_write n l r fs writes q =
    ap (λ (o : Option ℕ). kept_if (λ f. nat_lt q n && (fact_below n f && (not (option_map_or (fact_names f) o false) && not (changes_memory l && asks_memory f))))
    (if option_map_or (λ k. nat_eq k q) o false then fact_of l else fs q)) writes
    ∙ after_some n r (changes_memory l) (fact_of l) fs (unasked l) q

pub after_nothing : (n : ℕ) (l : Line ℕ) (fs : Facts) → line_writes l ≡ None → ((r : ℕ) (f : Fact) → fs r ≡ Some f → (nat_lt r n && fact_below n f) ≡ true) → (q : ℕ)
    → after n l fs q ≡ changed (changes_memory l) fs q
after_nothing n l fs writes low q =
    ap (λ (o : Option ℕ). kept_if (λ f. nat_lt q n && (fact_below n f && (not (option_map_or (fact_names f) o false) && not (changes_memory l && asks_memory f))))
    (if option_map_or (λ k. nat_eq k q) o false then fact_of l else fs q)) writes
    ∙ after_none n (changes_memory l) fs low q

-- ---- lines

pub lines_on : (n : ℕ) (es : List Entry) (whole : List (Line ℕ)) (t u : FactTable) (lines : List (Line ℕ)) (i : ℕ) (l m : Line ℕ) (rest : List (Line ℕ)) (j k : Jump ℕ) → i < length lines → l ≡ get_or lines i l
    → IsPut (facts_of t) l m → ((q : ℕ) → facts_of u q ≡ after n m (facts_of t) q) → AreForwarded n es whole (facts_of u) (drop (i + 1) lines) rest j k
    → AreForwarded n es whole (facts_of t) (drop i lines) (m ∷ rest) j k
lines_on n es whole t u lines i l m rest j k low at is known h =
    subst (λ (xs : List (Line ℕ)). AreForwarded n es whole (facts_of t) xs (m ∷ rest) j k) (sym (item_next lines i l low at))
    (is, subst (λ (fs : Facts). AreForwarded n es whole fs (drop (i + 1) lines) rest j k) (fun_ext known) h)

-- ---- blocks

pub blocks_on : (n : ℕ) (es : List Entry) (blocks : List (Block ℕ)) (i : ℕ) (b c : Block ℕ) (rest : List (Block ℕ)) → i < length blocks → b ≡ get_or blocks i b → IsForwarded n es i b c
    → AllForwarded n es (i + 1) (drop (i + 1) blocks) rest → AllForwarded n es i (drop i blocks) (c ∷ rest)
blocks_on n es blocks i b c rest low at is h =
    subst (λ (xs : List (Block ℕ)). AllForwarded n es i xs (c ∷ rest)) (sym (item_next blocks i b low at)) (is, h)

-- ---- a block as it was

none_known : (fs : Facts) (k : ℕ) → AreKnown fs (claims_at [] k)
none_known fs zero = tt
none_known fs (suc k) = tt

leads_anywhere : (fs : Facts) (j : Jump ℕ) → LeadsWell [] fs j
leads_anywhere fs (Goto k) = none_known fs k
leads_anywhere fs (Branch on met otherwise) = (none_known fs met, none_known fs otherwise)
leads_anywhere fs (Return a) = tt
leads_anywhere fs Halt = tt

as_they_were : (n : ℕ) (whole : List (Line ℕ)) (fs : Facts) (lines : List (Line ℕ)) (j : Jump ℕ) → AreForwarded n [] whole fs lines lines j j
as_they_were n whole fs [] j = (inl refl, leads_anywhere fs j)
as_they_were n whole fs (l ∷ lines) j = (inl refl, as_they_were n whole (after n l fs) lines j)

-- where nothing is claimed of any
pub as_it_was : (n k : ℕ) (b : Block ℕ) → IsForwarded n [] k b b
as_it_was n k b = as_they_were n b.lines (known_at n [] k) b.lines b.jump
