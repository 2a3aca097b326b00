-- Copies in an order do at once what was wanted: first the moves of words, then those of longs, then the rest.
use Rattle.std.proofs.Common.{◌≡◌, ◌≢◌, ◌⊎◌, inl, inr, ℕ, ◌+◌, ◌/◌, ◌<◌, ◌≤◌, Bool, true, false, cond, nat_eq, List, [], ◌∷◌, ◌++◌, length, map, All, refl, sym, ◌∙◌, ap, subst, ⊎_elim, arith, slice_get, slice_set, Option, Some, None, length-set}
use Rattle.std.specs.Option.{option_and_then, option_flatten}
use Rattle.std.proofs.lemmas.Bool.Decides.{nat_tests}
use Rattle.std.proofs.lemmas.List.Elements.{All-tail}
use Rattle.il_ast.specs.declared.operation.Class.{Class}
use Rattle.il_ast.specs.declared.operation.Class.TheVariants.{W, L}
use Rattle.il_ast.specs.declared.operand.Val.{Val}
use Rattle.il_ast.specs.declared.operand.Val.TheVariants.{Int, Temp, Global}
use Rattle.il_ast.specs.declared.value.Value.{Value}
use Rattle.il_ast.specs.Prelude.{in_place, same_class, operand}
use Rattle.phi_copies.specs.declared.ending.Assignment.{Assignment}
use Rattle.phi_copies.specs.declared.moves.Move.{Move}
use Rattle.phi_copies.specs.Endings.{copied}
use Rattle.phi_copies.specs.Together.{after, IsBetween, IsRead, proper_count, move_to, move_of, move_in, in_front, moves_in, copy_of, unless_moved, rest_of, first_in, IsSequence, IsInOrder}
use Rattle.phi_copies.proofs.Carrying.{does_at_once}
use Rattle.phi_copies.proofs.Lists.{some_same, get_set_other, copied_then}
use Rattle.phi_copies.proofs.Members.{Among, among_all, one_of}
use Rattle.phi_copies.proofs.Running.{value_passes, reading, Goes, goes_or_not, after_unless, AllRead, Ran, run}
use Rattle.il_ast.proofs.Listed.{get_set_same}
use Rattle.il_ast.proofs.Alike.{same_class_is, class_itself}
use Rattle.std.proofs.lemmas.Bool.{cases_eq}

-- ---- which copies are moves

-- a move between two temporaries
pub record IsMoveOf (c : Assignment) (m : Move) : Type 0 where
  pub to : m.to ≡ c.to.temp
  pub value : c.value ≡ Temp m.from
  pub apart : m.to ≢ m.from

pub is_move : (c : Assignment) (m : Move) → move_of c ≡ Some m → IsMoveOf c m
is_move c m h = by c.value refl h
  where
    by : (a : Val) → c.value ≡ a → move_to c.to.temp a ≡ Some m → IsMoveOf c m
    by (Int n) e g = absurd (let no : ⊥ = cc in no)
    by (Global n) e g = absurd (let no : ⊥ = cc in no)
    by (Temp u) e g = at (nat_eq u c.to.temp) refl g
      where
        at : (b : Bool) → nat_eq u c.to.temp ≡ b → cond b None (Some (record { to = c.to.temp; from = u })) ≡ Some m → IsMoveOf c m
        at true k i = absurd (let no : ⊥ = cc in no)
        at false k i =
            let is : record { to = c.to.temp; from = u } ≡ m = some_same i in
            subst (IsMoveOf c) is (record { to = refl; value = e; apart = λ same. let no : ⊥ = grind (arith, nat_tests) in no })

pub record IsMover (k : Class) (c : Assignment) (m : Move) : Type 0 where
  pub class : c.to.class ≡ k
  pub move : move_of c ≡ Some m

pub is_mover : (k : Class) (c : Assignment) (m : Move) → move_in k c ≡ Some m → IsMover k c m
is_mover k c m h = by (same_class c.to.class k) refl h
  where
    by : (b : Bool) → same_class c.to.class k ≡ b → cond b (move_of c) None ≡ Some m → IsMover k c m
    by true e g = record { class = same_class_is c.to.class k e; move = g }
    by false e g = absurd (let no : ⊥ = cc in no)

pub mover_in : (k : Class) (c : Assignment) (m : Move) → c.to.class ≡ k → move_of c ≡ Some m → move_in k c ≡ Some m
mover_in k c m class move = ap (λ b. cond b (move_of c) None) (ap (λ x. same_class x k) class ∙ class_itself k) ∙ move

-- where a move came from
pub record CameFrom (k : Class) (cs : List Assignment) (m : Move) : Type 0 where
  pub copy : Assignment
  pub there : Among copy cs
  pub is : move_in k copy ≡ Some m

pub came_from : (k : Class) (cs : List Assignment) (m : Move) → Among m (moves_in k cs) → CameFrom k cs m
came_from k [] m a = absurd a
came_from k (c ∷ cs) m a = by (move_in k c) refl a (came_from k cs m)
  where
    by : (o : Option Move) → move_in k c ≡ o → Among m (in_front o (moves_in k cs)) → (Among m (moves_in k cs) → CameFrom k cs m) → CameFrom k (c ∷ cs) m
    by None e g rest = let r = rest g in record { copy = r.copy; there = inr r.there; is = r.is }
    by (Some n) e (inl same) rest = record { copy = c; there = inl refl; is = e ∙ ap Some (sym same) }
    by (Some n) e (inr g) rest = let r = rest g in record { copy = r.copy; there = inr r.there; is = r.is }

pub gone_to : (k : Class) (cs : List Assignment) (c : Assignment) (m : Move) → Among c cs → move_in k c ≡ Some m → Among m (moves_in k cs)
gone_to k [] c m a h = absurd a
gone_to k (d ∷ cs) c m (inl e) h = subst (λ o. Among m (in_front o (moves_in k cs))) (sym h ∙ ap (move_in k) e) (inl refl)
gone_to k (d ∷ cs) c m (inr a) h = by (move_in k d) (gone_to k cs c m a h)
  where
    by : (o : Option Move) → Among m (moves_in k cs) → Among m (in_front o (moves_in k cs))
    by None g = g
    by (Some n) g = inr g

-- the rest
pub record Stays (cs : List Assignment) (c : Assignment) : Type 0 where
  pub there : Among c cs
  pub is : move_of c ≡ None

pub rest_stays : (cs : List Assignment) (c : Assignment) → Among c (rest_of cs) → Stays cs c
rest_stays [] c a = absurd a
rest_stays (d ∷ cs) c a = by (move_of d) refl a (rest_stays cs c)
  where
    by : (o : Option Move) → move_of d ≡ o → Among c (unless_moved o d (rest_of cs)) → (Among c (rest_of cs) → Stays cs c) → Stays (d ∷ cs) c
    by None e (inl same) rest = record { there = inl same; is = ap move_of same ∙ e }
    by None e (inr g) rest = let r = rest g in record { there = inr r.there; is = r.is }
    by (Some m) e g rest = let r = rest g in record { there = inr r.there; is = r.is }

pub stays_rest : (cs : List Assignment) (c : Assignment) → Among c cs → move_of c ≡ None → Among c (rest_of cs)
stays_rest [] c a h = absurd a
stays_rest (d ∷ cs) c (inl e) h = subst (λ o. Among c (unless_moved o d (rest_of cs))) (sym h ∙ ap move_of e) (inl e)
stays_rest (d ∷ cs) c (inr a) h = by (move_of d) (stays_rest cs c a h)
  where
    by : (o : Option Move) → Among c (rest_of cs) → Among c (unless_moved o d (rest_of cs))
    by None g = inr g
    by (Some m) g = g

-- ---- what is given

-- the copies `cs` can be done at once on `n` temporaries, of which there are `all` with those that may be used besides
pub record CanBeOne (n all : ℕ) (cs : List Assignment) (scratch : Class → ℕ) : Type 0 where
  pub once : (c d : Assignment) → Among c cs → Among d cs → c.to.temp ≡ d.to.temp → c ≡ d
  pub own : (c : Assignment) → Among c cs → c.to.temp < n
  pub fewer : n ≤ all
  -- no long reads what a word goes to
  pub reads : (c d : Assignment) (m : Move) → Among c cs → Among d cs → move_in L c ≡ Some m → d.to.class ≡ W → m.from ≢ d.to.temp
  pub read_own : (k : Class) (c : Assignment) (m : Move) → Among c cs → move_in k c ≡ Some m → m.from < n
  pub above : (k : Class) → n ≤ scratch k
  pub inside : (k : Class) (m : Move) → Among m (moves_in k cs) → scratch k < all

-- what was wanted stands there, as the values were before
abbrev pub Holds : List Value → List (Option Value) → List (Option Value) → Assignment → Type 0
Holds globals ts us c = slice_get us c.to.temp ≡ Some (operand globals ts c.to.class c.value)

-- ---- the moves of one class

pub goes_where : (moves out : List Move) (scratch q : ℕ) → All (IsBetween moves scratch) out → Goes q out → (q ≡ scratch) ⊎ Goes q moves
goes_where moves [] scratch q h g = absurd g
goes_where moves (m ∷ out) scratch q h (inl e) =
    ⊎_elim (λ s. inl (e ∙ s))
    (λ a. let r = one_of (λ (n : Move). n.to ≡ m.to) moves a in inr (found moves r.item r.there (e ∙ sym r.holds)))
    (among_all (IsBetween moves scratch) (m ∷ out) m h (inl refl)).1
  where
    found : (ms : List Move) (n : Move) → Among n ms → q ≡ n.to → Goes q ms
    found [] n a e = absurd a
    found (x ∷ ms) n (inl same) e = inl (e ∙ ap (λ (y : Move). y.to) same)
    found (x ∷ ms) n (inr a) e = inr (found ms n a e)
goes_where moves (m ∷ out) scratch q h (inr g) = goes_where moves out scratch q (All-tail (IsBetween moves scratch) m out h) g

pub record Going (q : ℕ) (ms : List Move) : Type 0 where
  pub move : Move
  pub there : Among move ms
  pub is : q ≡ move.to

pub going : (q : ℕ) (ms : List Move) → Goes q ms → Going q ms
going q [] g = absurd g
going q (m ∷ ms) (inl e) = record { move = m; there = inl refl; is = e }
going q (m ∷ ms) (inr g) = let r = going q ms g in record { move = r.move; there = inr r.there; is = r.is }

pub goes : (ms : List Move) (m : Move) → Among m ms → Goes m.to ms
goes [] m a = absurd a
goes (n ∷ ms) m (inl e) = inl (ap (λ (x : Move). x.to) e)
goes (n ∷ ms) m (inr a) = inr (goes ms m a)

pub some_move : (moves out : List Move) (m : Move) → length out ≤ proper_count moves + proper_count moves / 2 → Among m out → (n : Move) × Among n moves
some_move (n ∷ moves) out m few a = (n, inl refl)
some_move [] [] m few a = absurd a
some_move [] (x ∷ out) m few a = absurd (let none : ⊥ = omega (arith, few) in none)

-- what the moves of one class leave
record Stage (globals : List Value) (n : ℕ) (cs : List Assignment) (ts : List (Option Value)) (k : Class) (out : List Move) : Type 0 where
  now : List (Option Value)
  done : copied globals ts (map (copy_of k) out) ≡ Some now
  long : length now ≡ length ts
  moved : (c : Assignment) (m : Move) → Among c cs → move_in k c ≡ Some m → slice_get now c.to.temp ≡ Some (reading globals ts k m.from)
  kept : (q : ℕ) → q < n → ((c : Assignment) (m : Move) → Among c cs → move_in k c ≡ Some m → q ≢ c.to.temp) → slice_get now q ≡ slice_get ts q

stage : (globals : List Value) (n all : ℕ) (cs : List Assignment) (scratch : Class → ℕ) (ts : List (Option Value)) (k : Class) (out : List Move)
    → CanBeOne n all cs scratch → length ts ≡ all → IsSequence (moves_in k cs) (scratch k) out
    → ((c : Assignment) (m : Move) → Among c cs → move_in k c ≡ Some m → (v : Value) × (reading globals ts k m.from ≡ Some v))
    → Stage globals n cs ts k out
stage globals n all cs scratch ts k out can long s defined =
    record { now = r.now; done = r.done; long = r.long; moved = moved; kept = kept }
  where
    moves : List Move
    moves = moves_in k cs

    env : ℕ → Option Value
    env = reading globals ts k

    known : AllRead globals ts k (IsRead moves)
    known p h =
        let o = one_of (λ (m : Move). m.from ≡ p) moves h in
        let c = came_from k cs o.item o.there in
        let d = defined c.copy o.item c.there c.is in
        (d.0, ap env (sym o.holds) ∙ d.1)

    goes_inside : (m : Move) → Among m out → (m.to ≡ scratch k) ⊎ Goes m.to moves → m.to < length ts
    goes_inside m a (inl e) =
        let some = some_move moves out m s.few a in
        let within = can.inside k some.0 some.1 in
        omega (arith, e, within, long)
    goes_inside m a (inr g) =
        let w = going m.to moves g in
        let c = came_from k cs w.move w.there in
        let to = (is_move c.copy w.move (is_mover k c.copy w.move c.is).move).to in
        let own = can.own c.copy c.there in
        let fewer = can.fewer in
        let is = w.is in
        omega (arith, to, own, fewer, is, long)

    r : Ran globals ts k out
    r = run globals ts k out (IsRead moves) known s.reads (λ m a. goes_inside m a (goes_where moves out (scratch k) m.to s.between (goes out m a)))

    -- a move between two places is done
    is_gone : (m : Move) → Among m moves → m.to ≢ m.from → Goes m.to out
    is_gone m a apart =
        ⊎_elim (λ g. g)
        (λ stays. absurd (apart (sym (after_unless (λ q. q) out m.to stays) ∙ among_all (λ (x : Move). after (λ q. q) out x.to ≡ x.from) moves m (s.at_once (λ q. q)).moved a)))
        (goes_or_not m.to out)

    moved : (c : Assignment) (m : Move) → Among c cs → move_in k c ≡ Some m → slice_get r.now c.to.temp ≡ Some (env m.from)
    moved c m a h =
        let is = is_move c m (is_mover k c m h).move in
        let there = gone_to k cs c m a h in
        let gone = is_gone m there is.apart in
        let last : after env out m.to ≡ env m.from = among_all (λ (x : Move). after env out x.to ≡ env x.from) moves m (does_at_once moves out (scratch k) s.at_once env).moved there in
        ap (slice_get r.now) (sym is.to) ∙ r.written m.to gone ∙ ap Some last

    kept : (q : ℕ) → q < n → ((c : Assignment) (m : Move) → Among c cs → move_in k c ≡ Some m → q ≢ c.to.temp) → slice_get r.now q ≡ slice_get ts q
    kept q own others =
        r.kept q
        (λ g. ⊎_elim
        (λ e. let above = can.above k in let none : ⊥ = omega (arith, own, e, above) in none)
        (λ there.
        let w = going q moves there in
        let c = came_from k cs w.move w.there in
        others c.copy w.move c.there c.is (w.is ∙ (is_move c.copy w.move (is_mover k c.copy w.move c.is).move).to))
        (goes_where moves out (scratch k) q s.between g))

-- ---- the rest: what reads a number, a name, or what it goes to

steady : (globals : List Value) (ts us : List (Option Value)) (c : Assignment) → move_of c ≡ None → slice_get us c.to.temp ≡ slice_get ts c.to.temp → operand globals us c.to.class c.value ≡ operand globals ts c.to.class c.value
steady globals ts us c h same = by c.value h
  where
    by : (a : Val) → move_to c.to.temp a ≡ None → operand globals us c.to.class a ≡ operand globals ts c.to.class a
    by (Int n) g = refl
    by (Global n) g = refl
    by (Temp u) g = at (nat_eq u c.to.temp) refl g
      where
        at : (b : Bool) → nat_eq u c.to.temp ≡ b → cond {A = Option Move} b None (Some (record { to = c.to.temp; from = u })) ≡ None → operand globals us c.to.class (Temp u) ≡ operand globals ts c.to.class (Temp u)
        at false e i = absurd (let none : ⊥ = cc in none)
        at true e i =
            let here : u ≡ c.to.temp = grind (arith, nat_tests) in
            ap (λ (o : Option (Option Value)). option_and_then (in_place c.to.class) (option_flatten o)) (ap (slice_get us) here ∙ (same ∙ ap (slice_get ts) (sym here)))

-- once it is written, it reads as what was written
again : (globals : List Value) (ts : List (Option Value)) (c : Assignment) (v : Value) → move_of c ≡ None → c.to.temp < length ts → operand globals ts c.to.class c.value ≡ Some v → operand globals (slice_set ts c.to.temp (Some v)) c.to.class c.value ≡ operand globals ts c.to.class c.value
again globals ts c v h inside known = by c.value h known
  where
    by : (a : Val) → move_to c.to.temp a ≡ None → operand globals ts c.to.class a ≡ Some v → operand globals (slice_set ts c.to.temp (Some v)) c.to.class a ≡ operand globals ts c.to.class a
    by (Int n) g j = refl
    by (Global n) g j = refl
    by (Temp u) g j = at (nat_eq u c.to.temp) refl g
      where
        at : (b : Bool) → nat_eq u c.to.temp ≡ b → cond {A = Option Move} b None (Some (record { to = c.to.temp; from = u })) ≡ None → operand globals (slice_set ts c.to.temp (Some v)) c.to.class (Temp u) ≡ operand globals ts c.to.class (Temp u)
        at false e i = absurd (let none : ⊥ = cc in none)
        at true e i =
            let here : u ≡ c.to.temp = grind (arith, nat_tests) in
            let written : slice_get (slice_set ts c.to.temp (Some v)) u ≡ Some (Some v) = ap (slice_get (slice_set ts c.to.temp (Some v))) here ∙ get_set_same ts c.to.temp (Some v) inside in
            ap (λ (o : Option (Option Value)). option_and_then (in_place c.to.class) (option_flatten o)) written ∙ value_passes c.to.class _ v j ∙ sym j

-- what the rest leaves
record Rest (globals : List Value) (ts : List (Option Value)) (cs : List Assignment) : Type 0 where
  now : List (Option Value)
  done : copied globals ts cs ≡ Some now
  long : length now ≡ length ts
  held : (c : Assignment) → Among c cs → Holds globals ts now c
  kept : (q : ℕ) → ((c : Assignment) → Among c cs → q ≢ c.to.temp) → slice_get now q ≡ slice_get ts q

-- no two of them go to one place
abbrev Once : List Assignment → Type 0
Once cs = (c d : Assignment) → Among c cs → Among d cs → c.to.temp ≡ d.to.temp → c ≡ d

goes_to : (q : ℕ) (cs : List Assignment) → ((c : Assignment) × Among c cs × (q ≡ c.to.temp)) ⊎ ((c : Assignment) → Among c cs → q ≢ c.to.temp)
goes_to q [] = inr (λ c a. absurd a)
goes_to q (c ∷ cs) =
    ⊎_elim (λ e. inl (c, inl refl, e))
    (λ n. ⊎_elim
    (λ w. inl (w.0, inr w.1, w.2))
    (λ h. inr (λ d a. ⊎_elim (λ same. λ e. n (e ∙ ap (λ (x : Assignment). x.to.temp) same)) (λ b. h d b) a))
    (goes_to q cs))
    (cases_eq q c.to.temp)

rest : (globals : List Value) (ts : List (Option Value)) (cs : List Assignment) → Once cs → ((c : Assignment) → Among c cs → move_of c ≡ None) → ((c : Assignment) → Among c cs → c.to.temp < length ts)
    → ((c : Assignment) → Among c cs → (v : Value) × (operand globals ts c.to.class c.value ≡ Some v)) → Rest globals ts cs
rest globals ts [] once stays inside defined = record { now = ts; done = refl; long = refl; held = λ c a. absurd a; kept = λ q n. refl }
rest globals ts (c ∷ cs) once stays inside defined =
    let d = defined c (inl refl) in
    let v = d.0 in
    let ts' = slice_set ts c.to.temp (Some v) in
    let long : length ts' ≡ length ts = length-set ts c.to.temp (Some v) in
    let here = inside c (inl refl) in
    let same : (x : Assignment) → Among x cs → operand globals ts' x.to.class x.value ≡ operand globals ts x.to.class x.value = λ x a.
    ⊎_elim
    (λ e. let one : x ≡ c = once x c (inr a) (inl refl) e in
    let reads : Assignment → List (Option Value) → Option Value = λ y us. operand globals us y.to.class y.value in
    ap (λ y. reads y ts') one ∙ again globals ts c v (stays c (inl refl)) here d.1 ∙ ap (λ y. reads y ts) (sym one))
    (λ n. steady globals ts ts' x (stays x (inr a)) (get_set_other ts x.to.temp c.to.temp (Some v) n))
    (cases_eq x.to.temp c.to.temp) in
    let more = rest globals ts' cs (λ x y a b. once x y (inr a) (inr b)) (λ x a. stays x (inr a)) (λ x a. subst (λ l. x.to.temp < l) (sym long) (inside x (inr a)))
    (λ x a. let e = defined x (inr a) in (e.0, same x a ∙ e.1)) in
    record {
      now = more.now;
      done = ap (option_and_then (λ w. copied globals (slice_set ts c.to.temp (Some w)) cs)) d.1 ∙ more.done;
      long = more.long ∙ long;
      held = λ x a. ⊎_elim
          (λ e. ⊎_elim
          (λ w. let one : x ≡ w.0 = once x w.0 a (inr w.1) w.2 in
          ap (λ (y : Assignment). slice_get more.now y.to.temp) one ∙ more.held w.0 w.1 ∙ ap Some (same w.0 w.1) ∙ ap (λ (y : Assignment). Some (operand globals ts y.to.class y.value)) (sym one))
          (λ n. more.kept x.to.temp n ∙ ap (λ (y : Assignment). slice_get ts' y.to.temp) e ∙ get_set_same ts c.to.temp (Some v) here ∙ ap Some (sym d.1) ∙ ap (λ (y : Assignment). Some (operand globals ts y.to.class y.value)) (sym e))
          (goes_to x.to.temp cs))
          (λ b. more.held x b ∙ ap Some (same x b)) a;
      kept = λ q n. more.kept q (λ x a. n x (inr a)) ∙ get_set_other ts q c.to.temp (Some v) (n c (inl refl));
    }

-- ---- all of it

pub record Done (globals : List Value) (n : ℕ) (ts : List (Option Value)) (cs copies : List Assignment) : Type 0 where
  pub now : List (Option Value)
  pub done : copied globals ts copies ≡ Some now
  pub long : length now ≡ length ts
  pub held : (c : Assignment) → Among c cs → Holds globals ts now c
  pub kept : (q : ℕ) → q < n → ((c : Assignment) → Among c cs → q ≢ c.to.temp) → slice_get now q ≡ slice_get ts q

pub all_done : (globals : List Value) (n all number : ℕ) (cs copies : List Assignment) (ts : List (Option Value))
    → CanBeOne n all cs (λ k. first_in k number cs) → length ts ≡ all → IsInOrder number cs copies
    → ((c : Assignment) → Among c cs → (v : Value) × (operand globals ts c.to.class c.value ≡ Some v)) → Done globals n ts cs copies
all_done globals n all number cs copies ts can long order defined =
    record {
      now = third.now;
      done = ap (copied globals ts) order.are
          ∙ copied_then globals ts first.now (map (copy_of W) order.words) (map (copy_of L) order.longs ++ rest_of cs) first.done
          ∙ copied_then globals first.now second.now (map (copy_of L) order.longs) (rest_of cs) second.done
          ∙ third.done;
      long = third.long ∙ second.long ∙ first.long;
      held = λ c a. held c a (move_of c) refl;
      kept = λ q own others.
          third.kept q (λ c a. others c (rest_stays cs c a).there)
          ∙ second.kept q own (λ c m a h. others c a)
          ∙ first.kept q own (λ c m a h. others c a);
    }
  where
    scratch : Class → ℕ
    scratch k = first_in k number cs

    -- the value of a move's source
    of_move : (us : List (Option Value)) (k : Class) (c : Assignment) (m : Move) → move_in k c ≡ Some m → operand globals us c.to.class c.value ≡ reading globals us k m.from
    of_move us k c m h =
        let is = is_mover k c m h in
        ap (λ x. operand globals us x c.value) is.class ∙ ap (operand globals us k) (is_move c m is.move).value

    first : Stage globals n cs ts W order.words
    first = stage globals n all cs scratch ts W order.words can long order.words_are (λ c m a h. let d = defined c a in (d.0, sym (of_move ts W c m h) ∙ d.1))

    -- what a long reads is as it was
    unread : (c : Assignment) (m : Move) → Among c cs → move_in L c ≡ Some m → reading globals first.now L m.from ≡ reading globals ts L m.from
    unread c m a h =
        ap (λ (o : Option (Option Value)). option_and_then (in_place L) (option_flatten o))
        (first.kept m.from (can.read_own L c m a h) (λ d x b g. can.reads c d m a b h (is_mover W d x g).class))

    second : Stage globals n cs first.now L order.longs
    second = stage globals n all cs scratch first.now L order.longs can (first.long ∙ long) order.longs_are (λ c m a h. let d = defined c a in (d.0, unread c m a h ∙ sym (of_move ts L c m h) ∙ d.1))

    -- where no move goes
    still : (c : Assignment) → Among c cs → move_of c ≡ None → slice_get second.now c.to.temp ≡ slice_get ts c.to.temp
    still c a stays =
        second.kept c.to.temp (can.own c a) (λ d x b g e. none_moves c d x a b (is_mover L d x g).move stays e)
        ∙ first.kept c.to.temp (can.own c a) (λ d x b g e. none_moves c d x a b (is_mover W d x g).move stays e)
      where
        none_moves : (c d : Assignment) (x : Move) → Among c cs → Among d cs → move_of d ≡ Some x → move_of c ≡ None → c.to.temp ≡ d.to.temp → ⊥
        none_moves c d x a b g stays e =
            let same : c ≡ d = can.once c d a b e in
            let one : Some x ≡ None = sym g ∙ sym (ap move_of same) ∙ stays in
            cc

    third : Rest globals second.now (rest_of cs)
    third =
        rest globals second.now (rest_of cs)
        (λ c d a b. can.once c d (rest_stays cs c a).there (rest_stays cs d b).there)
        (λ c a. (rest_stays cs c a).is)
        (λ c a. let own = can.own c (rest_stays cs c a).there in let fewer = can.fewer in let long2 = second.long in let long1 = first.long in omega (arith, own, fewer, long, long1, long2))
        (λ c a. let w = rest_stays cs c a in let d = defined c w.there in (d.0, steady globals ts second.now c w.is (still c w.there w.is) ∙ d.1))

    rest_elsewhere : (c : Assignment) (m : Move) → Among c cs → move_of c ≡ Some m → (d : Assignment) → Among d (rest_of cs) → c.to.temp ≢ d.to.temp
    rest_elsewhere c m a h d b e =
        let w = rest_stays cs d b in
        let same : c ≡ d = can.once c d a w.there e in
        let one : Some m ≡ None = sym h ∙ ap move_of same ∙ w.is in
        cc

    held : (c : Assignment) → Among c cs → (o : Option Move) → move_of c ≡ o → Holds globals ts third.now c
    held c a None h = third.held c (stays_rest cs c a h) ∙ ap Some (steady globals ts second.now c h (still c a h))
    held c a (Some m) h = by c.to.class refl
      where
        by : (k : Class) → c.to.class ≡ k → Holds globals ts third.now c
        by W e =
            let in_w = mover_in W c m e h in
            third.kept c.to.temp (rest_elsewhere c m a h)
            ∙ second.kept c.to.temp (can.own c a)
            (λ d x b g same. let one : W ≡ L = sym e ∙ ap (λ (y : Assignment). y.to.class) (can.once c d a b same) ∙ (is_mover L d x g).class in cc)
            ∙ first.moved c m a in_w
            ∙ ap Some (sym (of_move ts W c m in_w))
        by L e =
            let in_l = mover_in L c m e h in
            third.kept c.to.temp (rest_elsewhere c m a h)
            ∙ second.moved c m a in_l
            ∙ ap Some (unread c m a in_l ∙ sym (of_move ts L c m in_l))
