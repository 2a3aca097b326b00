-- What phis take from a block, copied in an order, are copies for these phis.
use Rattle.std.proofs.Common.{◌≡◌, ◌≢◌, ◌⊎◌, inl, inr, ℕ, zero, suc, ◌+◌, ◌*◌, ◌<◌, ◌≤◌, Bool, true, false, cond, nat_eq, nat_lt, not, List, [], ◌∷◌, ◌++◌, length, map, take, drop, refl, sym, ◌∙◌, ap, subst, ⊎_elim, arith, eqb, slice_get, slice_set, Option, Some, None, find, option_map, option_and_then}
use Rattle.std.proofs.lemmas.Bool.Decides.{nat_tests}
use Rattle.std.proofs.lemmas.List.{length-set, length-append, length-map}
use Rattle.std.proofs.lemmas.List.Sums.{sum_by-cons}
use Rattle.il_ast.specs.declared.operation.Class.{Class}
use Rattle.il_ast.specs.declared.operation.Class.TheVariants.{W, L}
use Rattle.il_ast.specs.declared.operand.Val.{Val}
use Rattle.il_ast.specs.declared.operand.Val.TheVariants.{Int, Temp, Global}
use Rattle.il_ast.specs.declared.block.Phi.{Phi}
use Rattle.il_ast.specs.declared.block.PhiArg.{PhiArg}
use Rattle.il_ast.specs.declared.block.Block.{Block}
use Rattle.il_ast.specs.declared.function.Func.{Func}
use Rattle.il_ast.specs.declared.value.Value.{Value}
use Rattle.il_ast.specs.Prelude.{phi_count, operand, phi_value, phi_values, with_phis, same_class}
use Rattle.phi_copies.specs.declared.ending.Assignment.{Assignment}
use Rattle.phi_copies.specs.declared.moves.Move.{Move}
use Rattle.phi_copies.specs.Classed.{Classes, Fits, Takes, CopiesFit, PhisFit}
use Rattle.phi_copies.specs.Copies.{phis_of, phis_at, first_own, ValueBelow, CopiesBelow, AreCopies}
use Rattle.phi_copies.specs.Endings.{copied}
use Rattle.phi_copies.specs.Good.{IsGoodFunction}
use Rattle.phi_copies.specs.Together.{HasDistinctDestinations, IsUnnamed, IsBetween, proper_count, wanted, move_of, move_in, in_front, moves_in, copy_of, unless_moved, rest_of, first_in, IsSequence, IsInOrder}
use Rattle.phi_copies.specs.Source.{value_or_zero, source}
use Rattle.phi_copies.proofs.EdgePlaces.{phis_counted}
use Rattle.phi_copies.specs.Map.{first_numbers}
use Rattle.phi_copies.proofs.EntryNumbers.{entry_found}
use Rattle.phi_copies.proofs.Lists.{some_same, get_set_other, same_places, parts_of, get_take}
use Rattle.phi_copies.proofs.Members.{Among, among_all, all_among, one_of, among_get, Apart, all_pairs, came, goes_map}
use Rattle.phi_copies.proofs.MoreKnown.{operand_less}
use Rattle.phi_copies.proofs.PhiRules.{GoApart, phis_apart, goes_own, reads_own, reads_long}
use Rattle.phi_copies.proofs.Staged.{is_move, is_mover, came_from, rest_stays, CanBeOne, some_move, goes_where, going, goes, all_done}
use Rattle.il_ast.proofs.Listed.{get_set_same, length_take}
use Rattle.il_ast.proofs.Alike.{same_class_is, class_itself}
use Rattle.std.proofs.lemmas.Bool.{cases_eq}

-- ---- lists

apart_same : {A : Type 0} (R : A → A → Type 0) (xs : List A) (x y : A) → Apart R xs → Among x xs → Among y xs → (R x y → ⊥) → (R y x → ⊥) → x ≡ y
apart_same R [] x y h a b n m = absurd a
apart_same R (z ∷ xs) x y h (inl e) (inl g) n m = e ∙ sym g
apart_same R (z ∷ xs) x y h (inl e) (inr b) n m = absurd (n (subst (λ w. R w y) (sym e) (h.0 y b)))
apart_same R (z ∷ xs) x y h (inr a) (inl g) n m = absurd (m (subst (λ w. R w x) (sym g) (h.0 x a)))
apart_same R (z ∷ xs) x y h (inr a) (inr b) n m = apart_same R xs x y h.1 a b n m

abbrev EndApart : Assignment → Assignment → Type 0
EndApart c d = c.to.temp ≢ d.to.temp

apart_wanted : (from : ℕ) (ps : List Phi) → Apart GoApart ps → Apart EndApart (map (wanted from) ps)
apart_wanted from [] h = tt
apart_wanted from (p ∷ ps) h = (
  λ c a e. let r = came (wanted from) ps c a in h.0 r.item r.there (e ∙ ap (λ (x : Assignment). x.to.temp) r.is),
  apart_wanted from ps h.1,
)

abbrev MoveApart : Move → Move → Type 0
MoveApart m n = m.to ≢ n.to

apart_moves : (k : Class) (cs : List Assignment) → Apart EndApart cs → Apart MoveApart (moves_in k cs)
apart_moves k [] h = tt
apart_moves k (c ∷ cs) h = by (move_in k c) refl (apart_moves k cs h.1)
  where
    by : (o : Option Move) → move_in k c ≡ o → Apart MoveApart (moves_in k cs) → Apart MoveApart (in_front o (moves_in k cs))
    by None e rest = rest
    by (Some m) e rest = (
      λ n a same.
          let r = came_from k cs n a in
          let there = (is_move r.copy n (is_mover k r.copy n r.is).move).to in
          let here = (is_move c m (is_mover k c m e).move).to in
          h.0 r.copy r.there (sym here ∙ same ∙ there),
      rest,
    )

get_past_take : {A : Type 0} (n : ℕ) (xs : List A) (k : ℕ) → n ≤ k → slice_get (take n xs) k ≡ None
get_past_take zero xs k le = refl
get_past_take (suc n) [] k le = refl
get_past_take (suc n) (x ∷ xs) zero le = absurd (omega (arith, le))
get_past_take (suc n) (x ∷ xs) (suc k) le = get_past_take n xs k (omega (arith, le))

le_or_less : (n k : ℕ) → (n ≤ k) ⊎ (k < n)
le_or_less n k = by (nat_lt k n) refl
  where
    by : (b : Bool) → nat_lt k n ≡ b → (n ≤ k) ⊎ (k < n)
    by true e = inr (grind (arith, nat_tests))
    by false e = inl (grind (arith, nat_tests))

-- ---- the temporaries that may be used besides

first_least : (k : Class) (n : ℕ) (cs : List Assignment) → n ≤ first_in k n cs
first_least k n [] = omega arith
first_least k n (c ∷ cs) = by (same_class c.to.class k) (first_least k (n + 1) cs)
  where
    by : (b : Bool) → n + 1 ≤ first_in k (n + 1) cs → n ≤ cond b n (first_in k (n + 1) cs)
    by true le = omega arith
    by false le = omega (arith, le)

first_less : (k : Class) (n : ℕ) (cs : List Assignment) (c : Assignment) → Among c cs → c.to.class ≡ k → first_in k n cs < n + length cs
first_less k n [] c a e = absurd a
first_less k n (d ∷ cs) c a e = by (same_class d.to.class k) refl a (first_less k (n + 1) cs c)
  where
    by : (b : Bool) → same_class d.to.class k ≡ b → Among c (d ∷ cs) → (Among c cs → c.to.class ≡ k → first_in k (n + 1) cs < n + 1 + length cs) → cond b n (first_in k (n + 1) cs) < n + length (d ∷ cs)
    by true g h rest = omega arith
    by false g (inl same) rest = absurd (let none : true ≡ false = sym (ap (λ x. same_class x k) (sym (ap (λ (y : Assignment). y.to.class) same) ∙ e) ∙ class_itself k) ∙ g in cc)
    by false g (inr h) rest = let lt = rest h e in omega (arith, lt)

-- ---- how many there are

proper_few : (ms : List Move) → proper_count ms ≤ length ms
proper_few [] = omega arith
proper_few (m ∷ ms) =
    let all = sum_by-cons (λ (x : Move). cond (not (eqb x.to x.from)) 1 0) m ms in
    let rest = proper_few ms in
    let one = at_most (not (eqb m.to m.from)) in
    omega (arith, all, rest, one)
  where
    at_most : (b : Bool) → ◌≤◌ (cond b 1 0) 1
    at_most true = omega arith
    at_most false = omega arith

parted_many : (cs : List Assignment) → length (moves_in W cs) + length (moves_in L cs) + length (rest_of cs) ≡ length cs
parted_many [] = omega arith
parted_many (c ∷ cs) = by c.to.class (move_of c) (parted_many cs)
  where
    by : (k : Class) (o : Option Move) → length (moves_in W cs) + length (moves_in L cs) + length (rest_of cs) ≡ length cs
        → length (in_front (cond (same_class k W) o None) (moves_in W cs)) + length (in_front (cond (same_class k L) o None) (moves_in L cs)) + length (unless_moved o c (rest_of cs)) ≡ length (c ∷ cs)
    by W None e = omega (arith, e)
    by W (Some m) e = omega (arith, e)
    by L None e = omega (arith, e)
    by L (Some m) e = omega (arith, e)

pub few_copies : (n : ℕ) (cs copies : List Assignment) → IsInOrder n cs copies → 2 * length copies ≤ 3 * length cs
few_copies n cs copies order =
    let w = order.words_are.few in
    let l = order.longs_are.few in
    let pw = proper_few (moves_in W cs) in
    let pl = proper_few (moves_in L cs) in
    let parts = parted_many cs in
    let are = ap length order.are in
    let both = length-append (map (copy_of W) order.words) (map (copy_of L) order.longs ++ rest_of cs) in
    let more = length-append (map (copy_of L) order.longs) (rest_of cs) in
    let words = length-map order.words (copy_of W) in
    let longs = length-map order.longs (copy_of L) in
    omega (arith, w, l, pw, pl, parts, are, both, more, words, longs)

-- ---- which temporaries they name

value_below : (n : ℕ) (a : Val) → ((t : ℕ) → a ≡ Temp t → t < n) → ValueBelow n a
value_below n (Int m) h = tt
value_below n (Temp t) h = h t refl
value_below n (Global m) h = tt

copies_below : (n : ℕ) (cs : List Assignment) → ((c : Assignment) → Among c cs → (c.to.temp < n) × ValueBelow n c.value) → CopiesBelow n cs
copies_below n [] h = tt
copies_below n (c ∷ cs) h = let here = h c (inl refl) in (here.0, here.1, copies_below n cs (λ d a. h d (inr a)))

-- what is true of the moves of each class, and of the rest, is true of all copies
each_copy : (P : Assignment → Type 0) (n : ℕ) (cs copies : List Assignment) → IsInOrder n cs copies
    → ((k : Class) (out : List Move) → IsSequence (moves_in k cs) (first_in k n cs) out → (m : Move) → Among m out → P (copy_of k m))
    → ((c : Assignment) → Among c cs → P c)
    → (c : Assignment) → Among c copies → P c
each_copy P n cs copies order moves others c a =
    by (split (map (copy_of W) order.words) (map (copy_of L) order.longs ++ rest_of cs) (subst (Among c) order.are a))
  where
    split : (xs ys : List Assignment) → Among c (xs ++ ys) → Among c xs ⊎ Among c ys
    split [] ys h = inr h
    split (x ∷ xs) ys (inl e) = inl (inl e)
    split (x ∷ xs) ys (inr h) = ⊎_elim (λ b. inl (inr b)) (λ b. inr b) (split xs ys h)

    moved : (k : Class) (out : List Move) → IsSequence (moves_in k cs) (first_in k n cs) out → Among c (map (copy_of k) out) → P c
    moved k out s h = let r = came (copy_of k) out c h in subst P (sym r.is) (moves k out s r.item r.there)

    by : Among c (map (copy_of W) order.words) ⊎ Among c (map (copy_of L) order.longs ++ rest_of cs) → P c
    by (inl h) = moved W order.words order.words_are h
    by (inr h) =
        ⊎_elim (λ b. moved L order.longs order.longs_are b) (λ b. others c (rest_stays cs c b).there)
        (split (map (copy_of L) order.longs) (rest_of cs) h)

-- ---- classes

copies_fit : (classes : Classes) (cs : List Assignment) → ((c : Assignment) → Among c cs → Takes classes c.to × Fits classes c.to.class c.value) → CopiesFit classes cs
copies_fit classes [] h = tt
copies_fit classes (c ∷ cs) h = let here = h c (inl refl) in (here.0, here.1, copies_fit classes cs (λ d a. h d (inr a)))

phi_fit : (classes : Classes) (from n : ℕ) (ps : List Phi) (p : Phi) → PhisFit classes from n ps → Among p ps → Takes classes p.to × Fits classes p.to.class (source from p)
phi_fit classes from n [] p h a = absurd a
phi_fit classes from n (q ∷ ps) p h (inl e) = subst (λ (x : Phi). Takes classes x.to × Fits classes x.to.class (source from x)) (sym e) (h.1, h.2)
phi_fit classes from n (q ∷ ps) p h (inr a) = phi_fit classes from (n + 1) ps p h.3 a

first_fits : (classes : Classes) (from n : ℕ) (ps : List Phi) (k : Class) (c : Assignment) → PhisFit classes from n ps → Among c (map (wanted from) ps) → c.to.class ≡ k → classes (first_in k n (map (wanted from) ps)) ≡ k
first_fits classes from n [] k c h a e = absurd a
first_fits classes from n (p ∷ ps) k c h a e = by (same_class p.to.class k) refl a (first_fits classes from (n + 1) ps k c h.3)
  where
    by : (b : Bool) → same_class p.to.class k ≡ b → Among c (map (wanted from) (p ∷ ps)) → (Among c (map (wanted from) ps) → c.to.class ≡ k → classes (first_in k (n + 1) (map (wanted from) ps)) ≡ k) → classes (cond b n (first_in k (n + 1) (map (wanted from) ps))) ≡ k
    by true g b rest = h.0 ∙ same_class_is p.to.class k g
    by false g (inl same) rest = absurd (let none : true ≡ false = sym (ap (λ x. same_class x k) (sym (ap (λ (y : Assignment). y.to.class) same) ∙ e) ∙ class_itself k) ∙ g in cc)
    by false g (inr b) rest = rest b e

fits_same : (classes : Classes) (c : Class) (a b : Val) → a ≡ b → Fits classes c a → Fits classes c b
fits_same classes c a b e h = subst (Fits classes c) e h

-- ---- values

-- each phi's operand has this value
abbrev AllValues : List Value → List (Option Value) → (from : ℕ) → List Phi → List Value → Type 0
AllValues globals ts from [] [] = Unit {0}
AllValues globals ts from [] (v ∷ vs) = ⊥
AllValues globals ts from (p ∷ ps) [] = ⊥
AllValues globals ts from (p ∷ ps) (v ∷ vs) = (operand globals ts p.to.class (source from p) ≡ Some v) × AllValues globals ts from ps vs

find_less : (globals : List Value) (xs : List (Option Value)) (c : Class) (from : ℕ) (p : Phi) (found : Option PhiArg) → find (λ (a : PhiArg). nat_eq a.from from) p.args ≡ found → (v : Value) → option_and_then (λ (a : PhiArg). operand globals xs c a.value) found ≡ Some v → operand globals xs c (source from p) ≡ Some v
find_less globals xs c from p None e v h = absurd (let none : ⊥ = cc in none)
find_less globals xs c from p (Some a) e v h = ap (λ o. operand globals xs c (value_or_zero o)) e ∙ h

phi_read : (globals : List Value) (xs ys : List (Option Value)) (from : ℕ) (p : Phi) (v : Value) → phi_value globals xs from p ≡ Some v → operand globals (xs ++ ys) p.to.class (source from p) ≡ Some v
phi_read globals xs ys from p v h =
    operand_less globals xs ys p.to.class (source from p) v
    (find_less globals xs p.to.class from p (find (λ (a : PhiArg). nat_eq a.from from) p.args) refl v h)

all_values : (globals : List Value) (xs ys : List (Option Value)) (from : ℕ) (ps : List Phi) (vs : List Value) → phi_values globals xs from ps ≡ Some vs → AllValues globals (xs ++ ys) from ps vs
all_values globals xs ys from [] vs h = subst (AllValues globals (xs ++ ys) from []) (some_same h) tt
all_values globals xs ys from (p ∷ ps) vs h = by (phi_value globals xs from p) (phi_values globals xs from ps) refl refl h (all_values globals xs ys from ps)
  where
    by : (o : Option Value) (os : Option (List Value)) → phi_value globals xs from p ≡ o → phi_values globals xs from ps ≡ os → option_and_then (λ v. option_map (λ ws. v ∷ ws) os) o ≡ Some vs
        → ((ws : List Value) → phi_values globals xs from ps ≡ Some ws → AllValues globals (xs ++ ys) from ps ws) → AllValues globals (xs ++ ys) from (p ∷ ps) vs
    by None os e f i rest = absurd (let none : ⊥ = cc in none)
    by (Some v) None e f i rest = absurd (let none : ⊥ = cc in none)
    by (Some v) (Some ws) e f i rest = subst (AllValues globals (xs ++ ys) from (p ∷ ps)) (some_same i) (phi_read globals xs ys from p v e, rest ws f)

value_of : (globals : List Value) (ts : List (Option Value)) (from : ℕ) (ps : List Phi) (vs : List Value) (p : Phi) → AllValues globals ts from ps vs → Among p ps → (v : Value) × (operand globals ts p.to.class (source from p) ≡ Some v)
value_of globals ts from [] vs p h a = absurd a
value_of globals ts from (q ∷ ps) [] p h a = absurd h
value_of globals ts from (q ∷ ps) (v ∷ vs) p h (inl e) = (v, ap (λ (x : Phi). operand globals ts x.to.class (source from x)) e ∙ h.0)
value_of globals ts from (q ∷ ps) (v ∷ vs) p h (inr a) = value_of globals ts from ps vs p h.1 a

-- what stands at each phi's destination, and nothing new elsewhere, is what writing the phis leaves
all_written : (globals : List Value) (ts us xs : List (Option Value)) (from : ℕ) (ps : List Phi) (vs : List Value) → length us ≡ length xs → AllValues globals ts from ps vs
    → ((p : Phi) → Among p ps → slice_get us p.to.temp ≡ Some (operand globals ts p.to.class (source from p)))
    → ((p : Phi) → Among p ps → p.to.temp < length xs)
    → ((q : ℕ) → ((p : Phi) → Among p ps → q ≢ p.to.temp) → slice_get us q ≡ slice_get xs q)
    → us ≡ with_phis xs ps vs
all_written globals ts us xs from [] [] long values held below others = same_places us xs long (λ q. others q (λ p a. absurd a))
all_written globals ts us xs from [] (v ∷ vs) long values held below others = absurd values
all_written globals ts us xs from (p ∷ ps) [] long values held below others = absurd values
all_written globals ts us xs from (p ∷ ps) (v ∷ vs) long values held below others =
    let t = p.to.temp in
    let more : length (slice_set xs t (Some v)) ≡ length xs = length-set xs t (Some v) in
    all_written globals ts us (slice_set xs t (Some v)) from ps vs (long ∙ sym more) values.1
    (λ q a. held q (inr a)) (λ q a. subst (λ n. q.to.temp < n) (sym more) (below q (inr a)))
    (λ q n. ⊎_elim
    (λ e. ap (slice_get us) e ∙ held p (inl refl) ∙ ap Some values.0 ∙ sym (get_set_same xs t (Some v) (below p (inl refl))) ∙ ap (slice_get (slice_set xs t (Some v))) (sym e))
    (λ differ. others q (λ r a. ⊎_elim (λ same. λ e. differ (e ∙ ap (λ (x : Phi). x.to.temp) same)) (λ b. n r b) a) ∙ sym (get_set_other xs q t (Some v) differ))
    (cases_eq q t))

-- ---- all that is given

-- a block of a good function, whose phis' temporaries are numbered from n on
pub record Entered (f : Func) (from k number : ℕ) : Type 0 where
  pub good : IsGoodFunction f
  pub block : Block
  pub here : slice_get f.blocks k ≡ Some block
  pub is : number ≡ first_own f k

pub entered : (f : Func) (firsts : List ℕ) (from k number : ℕ) → IsGoodFunction f → firsts ≡ first_numbers (length f.temps) f.blocks → slice_get firsts k ≡ Some number → Entered f from k number
entered f firsts from k number good are at =
    let r = entry_found f firsts k number are at in record { good = good; block = r.block; here = r.here; is = r.is }

-- what the phis take, as it was collected
pub collected : (f : Func) (from k number : ℕ) (g : Entered f from k number) (phis : List Phi) (copies : List Assignment) → phis ≡ phis_at f.blocks k → copies ≡ map (wanted from) phis → copies ≡ map (wanted from) g.block.phis
collected f from k number g phis copies are is = is ∙ ap (map (wanted from)) (are ∙ ap phis_of g.here)

module _ (f : Func) (from k number : ℕ) (g : Entered f from k number) where
  abbrev phis : List Phi
  phis = g.block.phis

  abbrev cs : List Assignment
  cs = map (wanted from) phis

  abbrev all : ℕ
  all = length f.temps + phi_count f

  there : Among g.block f.blocks
  there = among_get f.blocks k g.block g.here

  enough : number + length cs ≤ all
  enough =
      let counted = phis_counted f.blocks k g.block g.here in
      let is = g.is in
      let long : length cs ≡ length phis = length-map phis (wanted from) in
      omega (arith, counted, is, long)

  pub apart : (c : Class) → HasDistinctDestinations (moves_in c cs)
  apart c = all_pairs MoveApart (moves_in c cs) (apart_moves c cs (apart_wanted from phis (phis_apart f g.good g.block there)))

  mover_to : (c : Class) (m : Move) → Among m (moves_in c cs) → m.to < length f.temps
  mover_to c m a =
      let r = came_from c cs m a in
      let p = came (wanted from) phis r.copy r.there in
      let to = (is_move r.copy m (is_mover c r.copy m r.is).move).to in
      let same = ap (λ (x : Assignment). x.to.temp) p.is in
      let own = goes_own f g.block p.item there p.there in
      omega (arith, to, same, own)

  copy_reads : (c : Assignment) (t : ℕ) → Among c cs → c.value ≡ Temp t → t < length f.temps
  copy_reads c t a e =
      let p = came (wanted from) phis c a in
      reads_own f g.block from p.item t there p.there (sym (ap (λ (x : Assignment). x.value) p.is) ∙ e)

  mover_from : (c : Class) (m : Move) → Among m (moves_in c cs) → m.from < length f.temps
  mover_from c m a =
      let r = came_from c cs m a in
      copy_reads r.copy m.from r.there (is_move r.copy m (is_mover c r.copy m r.is).move).value

  above : (c : Class) → length f.temps ≤ first_in c number cs
  above c = let least = first_least c number cs in let is = g.is in omega (arith, least, is)

  pub unnamed : (c : Class) → IsUnnamed (first_in c number cs) (moves_in c cs)
  unnamed c =
      all_among (λ (m : Move). (m.to ≢ first_in c number cs) × (m.from ≢ first_in c number cs)) (moves_in c cs)
      (λ m a. (
        λ e. let to = mover_to c m a in let high = above c in let none : ⊥ = omega (arith, to, high, e) in none,
        λ e. let read = mover_from c m a in let high = above c in let none : ⊥ = omega (arith, read, high, e) in none,
      ))

  inside : (c : Class) (m : Move) → Among m (moves_in c cs) → first_in c number cs < all
  inside c m a =
      let r = came_from c cs m a in
      let less = first_less c number cs r.copy r.there (is_mover c r.copy m r.is).class in
      let few = enough in
      omega (arith, less, few)

  can : CanBeOne (length f.temps) all cs (λ c. first_in c number cs)
  can = record {
    once = λ c d a b e.
        apart_same EndApart cs c d (apart_wanted from phis (phis_apart f g.good g.block there)) a b (λ n. n e) (λ n. n (sym e));
    own = λ c a.
        let p = came (wanted from) phis c a in
        let same = ap (λ (x : Assignment). x.to.temp) p.is in
        let own = goes_own f g.block p.item there p.there in
        omega (arith, same, own);
    fewer = omega arith;
    reads = λ c d m a b h w e.
        let p = came (wanted from) phis c a in
        let q = came (wanted from) phis d b in
        let mover = is_mover L c m h in
        reads_long f g.good g.block from p.item q.item m.from there p.there q.there
        (sym (ap (λ (x : Assignment). x.to.class) p.is) ∙ mover.class)
        (sym (ap (λ (x : Assignment). x.value) p.is) ∙ (is_move c m mover.move).value)
        (sym (ap (λ (x : Assignment). x.to.class) q.is) ∙ w)
        (e ∙ ap (λ (x : Assignment). x.to.temp) q.is);
    read_own = λ c d m a h. copy_reads d m.from a (is_move d m (is_mover c d m h).move).value;
    above = above;
    inside = inside;
  }

  -- ---- what they are

  pub few : (copies : List Assignment) → IsInOrder number cs copies → 2 * length copies ≤ 3 * length (phis_at f.blocks k)
  few copies order =
      let all_few = few_copies number cs copies order in
      let long : length cs ≡ length phis = length-map phis (wanted from) in
      let same : length (phis_at f.blocks k) ≡ length phis = ap (λ o. length (phis_of o)) g.here in
      omega (arith, all_few, long, same)

  -- a temporary that a sequence of moves names is one that the given moves name, or the one that may be used besides
  named_to : (c : Class) (out : List Move) → IsSequence (moves_in c cs) (first_in c number cs) out → (m : Move) → Among m out → (m.to ≡ first_in c number cs) ⊎ ((n : Move) × Among n (moves_in c cs) × (m.to ≡ n.to))
  named_to c out s m a =
      ⊎_elim (λ e. inl e) (λ h. let w = going m.to (moves_in c cs) h in inr (w.move, w.there, w.is))
      (goes_where (moves_in c cs) out (first_in c number cs) m.to s.between (goes out m a))

  named_from : (c : Class) (out : List Move) → IsSequence (moves_in c cs) (first_in c number cs) out → (m : Move) → Among m out → (m.from ≡ first_in c number cs) ⊎ ((n : Move) × Among n (moves_in c cs) × ((n.to ≡ m.from) ⊎ (n.from ≡ m.from)))
  named_from c out s m a =
      ⊎_elim (λ e. inl e)
      (λ h. let w = one_of (λ (n : Move). (n.to ≡ m.from) ⊎ (n.from ≡ m.from)) (moves_in c cs) h in inr (w.item, w.there, w.holds))
      (among_all (IsBetween (moves_in c cs) (first_in c number cs)) out m s.between a).2

  scratch_inside : (c : Class) (out : List Move) → IsSequence (moves_in c cs) (first_in c number cs) out → (m : Move) → Among m out → first_in c number cs < all
  scratch_inside c out s m a = let n = some_move (moves_in c cs) out m s.few a in inside c n.0 n.1

  pub below : (copies : List Assignment) → IsInOrder number cs copies → CopiesBelow all copies
  below copies order =
      copies_below all copies
      (each_copy (λ c. (c.to.temp < all) × ValueBelow all c.value) number cs copies order
      (λ c out s m a. (
        ⊎_elim
            (λ e. let in_all = scratch_inside c out s m a in omega (arith, e, in_all))
            (λ w. let own = mover_to c w.0 w.1 in let same = w.2 in omega (arith, own, same))
            (named_to c out s m a),
        ⊎_elim
            (λ e. let in_all = scratch_inside c out s m a in omega (arith, e, in_all))
            (λ w. ⊎_elim
            (λ same. let own = mover_to c w.0 w.1 in omega (arith, own, same))
            (λ same. let own = mover_from c w.0 w.1 in omega (arith, own, same)) w.2)
            (named_from c out s m a),
      ))
      (λ c a. (
        let own = can.own c a in omega (arith, own),
        value_below all c.value (λ t e. let own = copy_reads c t a e in omega (arith, own)),
      )))

  pub fit : (copies : List Assignment) → IsInOrder number cs copies → (classes : Classes) → PhisFit classes from number phis → CopiesFit classes copies
  fit copies order classes h =
      copies_fit classes copies
      (each_copy (λ c. Takes classes c.to × Fits classes c.to.class c.value) number cs copies order
      (λ c out s m a. (takes_to c out s m a, reads_from c out s m a))
      (λ c a. copy_fits c a))
    where
      copy_fits : (c : Assignment) → Among c cs → Takes classes c.to × Fits classes c.to.class c.value
      copy_fits c a =
          let p = came (wanted from) phis c a in
          subst (λ (x : Assignment). Takes classes x.to × Fits classes x.to.class x.value) (sym p.is) (phi_fit classes from number phis p.item h p.there)

      scratch_takes : (c : Class) (out : List Move) → IsSequence (moves_in c cs) (first_in c number cs) out → (m : Move) → Among m out → classes (first_in c number cs) ≡ c
      scratch_takes c out s m a =
          let n = some_move (moves_in c cs) out m s.few a in
          let r = came_from c cs n.0 n.1 in
          first_fits classes from number phis c r.copy h r.there (is_mover c r.copy n.0 r.is).class

      mover_takes : (c : Class) (n : Move) → Among n (moves_in c cs) → classes n.to ≡ c
      mover_takes c n a =
          let r = came_from c cs n a in
          let mover = is_mover c r.copy n r.is in
          ap classes (is_move r.copy n mover.move).to ∙ (copy_fits r.copy r.there).0 ∙ mover.class

      mover_reads : (n : Move) → Among n (moves_in L cs) → classes n.from ≡ L
      mover_reads n a =
          let r = came_from L cs n a in
          let mover = is_mover L r.copy n r.is in
          fits_same classes L r.copy.value (Temp n.from) (is_move r.copy n mover.move).value (subst (λ c. Fits classes c r.copy.value) mover.class (copy_fits r.copy r.there).1)

      takes_to : (c : Class) (out : List Move) → IsSequence (moves_in c cs) (first_in c number cs) out → (m : Move) → Among m out → classes m.to ≡ c
      takes_to c out s m a =
          ⊎_elim (λ e. ap classes e ∙ scratch_takes c out s m a) (λ w. ap classes w.2 ∙ mover_takes c w.0 w.1) (named_to c out s m a)

      reads_from : (c : Class) (out : List Move) → IsSequence (moves_in c cs) (first_in c number cs) out → (m : Move) → Among m out → Fits classes c (Temp m.from)
      reads_from W out s m a = tt
      reads_from L out s m a =
          ⊎_elim (λ e. ap classes e ∙ scratch_takes L out s m a)
          (λ w. ⊎_elim (λ same. ap classes (sym same) ∙ mover_takes L w.0 w.1) (λ same. ap classes (sym same) ∙ mover_reads w.0 w.1) w.2)
          (named_from L out s m a)

  pub at_once : (copies : List Assignment) → IsInOrder number cs copies → (globals : List Value) (ts : List (Option Value)) (vs : List Value) → length ts ≡ all
      → phi_values globals (take (length f.temps) ts) from phis ≡ Some vs
      → option_map (take (length f.temps)) (copied globals ts copies) ≡ Some (with_phis (take (length f.temps) ts) phis vs)
  at_once copies order globals ts vs long values =
      let n = length f.temps in
      let xs = take n ts in
      let fewer : n ≤ length ts = omega (arith, long) in
      let each : AllValues globals ts from phis vs = subst (λ us. AllValues globals us from phis vs) (sym (parts_of n ts)) (all_values globals xs (drop n ts) from phis vs values) in
      let d = all_done globals n all number cs copies ts can long order
      (λ c a.
      let p = came (wanted from) phis c a in
      let v = value_of globals ts from phis vs p.item each p.there in
      (v.0, ap (λ (x : Assignment). operand globals ts x.to.class x.value) p.is ∙ v.1)) in
      let own : (p : Phi) → Among p phis → p.to.temp < n = λ p a. goes_own f g.block p there a in
      let kept_long = d.long in
      let as_many : length (take n d.now) ≡ length xs = length_take n d.now (omega (arith, kept_long, fewer)) ∙ sym (length_take n ts fewer) in
      let now : take n d.now ≡ with_phis xs phis vs =
      all_written globals ts (take n d.now) xs from phis vs as_many each
      (λ p a. get_take n d.now p.to.temp (own p a) ∙ d.held (wanted from p) (goes_map (wanted from) phis p a))
      (λ p a. subst (λ m. p.to.temp < m) (sym (length_take n ts fewer)) (own p a))
      (λ q others. ⊎_elim
      (λ past. get_past_take n d.now q past ∙ sym (get_past_take n ts q past))
      (λ less.
      get_take n d.now q less
      ∙ d.kept q less (λ c a. let p = came (wanted from) phis c a in λ e. others p.item p.there (e ∙ ap (λ (x : Assignment). x.to.temp) p.is))
      ∙ sym (get_take n ts q less))
      (le_or_less n q)) in
      ap (option_map (take n)) d.done ∙ ap Some now

  pub entry_are : (copies : List Assignment) → IsInOrder number cs copies → AreCopies f from k copies
  entry_are copies order =
      let same : phis ≡ phis_at f.blocks k = sym (ap phis_of g.here) in
      record {
        at_once = λ globals ts vs long.
            subst (λ ps. phi_values globals (take (length f.temps) ts) from ps ≡ Some vs → option_map (take (length f.temps)) (copied globals ts copies) ≡ Some (with_phis (take (length f.temps) ts) ps vs)) same
            (at_once copies order globals ts vs long);
        fit = λ classes h. fit copies order classes (subst (λ m. PhisFit classes from m phis) (sym g.is) (subst (PhisFit classes from (first_own f k)) (sym same) h));
        below = below copies order;
        few = few copies order;
      }

-- where there is no block there is nothing to copy
pub nothing : (f : Func) (from k : ℕ) → slice_get f.blocks k ≡ None → AreCopies f from k []
nothing f from k none =
    let same : [] ≡ phis_at f.blocks k = sym (ap phis_of none) in
    record {
      at_once = λ globals ts vs long.
          subst (λ ps. phi_values globals (take (length f.temps) ts) from ps ≡ Some vs → option_map (take (length f.temps)) (copied globals ts []) ≡ Some (with_phis (take (length f.temps) ts) ps vs)) same
          (λ values. refl);
      fit = λ classes h. tt;
      below = tt;
      few = omega arith;
    }
