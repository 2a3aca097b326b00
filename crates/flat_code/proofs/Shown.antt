-- Values that numbers show: places, operands, and what is read.
use Rattle.std.proofs.Common.{◌≡◌, ℕ, zero, suc, ◌+◌, ◌%◌, ◌^◌, Bool, true, false, if◌then◌else◌, List, [], ◌∷◌, map, slice_get, Option, Some, None, refl, sym, ◌∙◌, ap, subst, arith, option_map, option_and_then}
use Rattle.std.proofs.lemmas.Option.{slice_get_past, same_Some, none-some}
use Rattle.bits.specs.Words.{sign_extended}
use Rattle.il_ast.specs.declared.operation.Class.{Class}
use Rattle.il_ast.specs.declared.operation.Class.TheVariants.{W, L}
use Rattle.il_ast.specs.declared.value.Value.{Value}
use Rattle.il_ast.specs.declared.value.Value.TheVariants.{Integer, Pointer, Function}
use Rattle.il_ast.specs.Prelude.{in_place, Passes, AreArgs}
use Rattle.vcode.specs.declared.place.Location.{Location}
use Rattle.vcode.specs.declared.place.Operand.{Operand}
use Rattle.vcode.specs.declared.place.Operand.TheVariants.{At, Number, Name}
use Rattle.vcode.specs.declared.place.Destination.{Destination}
use Rattle.vcode.specs.declared.place.Extension.{Extension}
use Rattle.vcode.specs.declared.place.Extension.TheVariants.{Made, Claimed}
use Rattle.vcode.specs.declared.place.Argument.{Argument}
use Rattle.vcode.specs.Prelude.{held as value_held, is_extended, stands_extended, passed as value_passed, Values, assign, put as put_value, kept as values_kept, same_location, is_callers, located, bound as values_bound, value_of, read as value_read, read_argument as value_argument, read_all as values_read}
use Rattle.flat_code.specs.Flat.{Bases, Entries, Grown, Shows, AllShow}
use Rattle.flat_code.specs.Step.{Numbers, put, kept, held, taken, passed, bound, number_of, read, read_argument, read_all}

-- ---- one value

pub shows_grown : (e : Entries) (p q : Bases) → Grown p q → (v : Value) (x : ℕ) → Shows e p v x → Shows e q v x
shows_grown e p q g (Integer n) x h = h
shows_grown e p q g (Pointer b o) x h = (h.0, g b h.0 h.1, h.2)
shows_grown e p q g (Function f) x h = h

pub all_grown : (e : Entries) (p q : Bases) → Grown p q → (vs : List Value) (xs : List ℕ) → AllShow e p vs xs → AllShow e q vs xs
all_grown e p q g [] [] h = tt
all_grown e p q g [] (x ∷ xs) h = absurd h
all_grown e p q g (v ∷ vs) [] h = absurd h
all_grown e p q g (v ∷ vs) (x ∷ xs) h = (shows_grown e p q g v x h.0, all_grown e p q g vs xs h.1)

-- a value is shown by one number
pub shown_by_one : (e : Entries) (p : Bases) (v : Value) (x y : ℕ) → Shows e p v x → Shows e p v y → x ≡ y
shown_by_one e p (Integer n) x y h k = h ∙ sym k
shown_by_one e p (Pointer b o) x y h k =
    let same : h.0 ≡ k.0 = same_Some h.0 k.0 (sym h.1 ∙ k.1) in h.2 ∙ (ap (λ a. (a + o) % 2 ^ 64) same ∙ sym k.2)
shown_by_one e p (Function f) x y h k = same_Some x y (sym h ∙ k)

-- ---- a value that there may be

-- where the code on blocks has a value, that on bytes has a number that shows it
abbrev pub Follows : Entries → Bases → Option Value → Option ℕ → Type 0
Follows e p o n = (v : Value) → o ≡ Some v → (x : ℕ) × (n ≡ Some x) × Shows e p v x

pub none_follows : (e : Entries) (p : Bases) (n : Option ℕ) → Follows e p None n
none_follows e p n v h = absurd (none-some v h)

pub some_follows : (e : Entries) (p : Bases) (v : Value) (x : ℕ) → Shows e p v x → Follows e p (Some v) (Some x)
some_follows e p v x h w is = (x, refl, subst (λ (u : Value). Shows e p u x) (same_Some v w is) h)

pub follows_map : (e : Entries) (p : Bases) (o : Option Value) (n : Option ℕ) (f : Value → Option Value) (g : ℕ → ℕ) → Follows e p o n
    → ((v w : Value) (x : ℕ) → Shows e p v x → f v ≡ Some w → Shows e p w (g x)) → Follows e p (option_and_then f o) (option_map g n)
follows_map e p None n f g h k w is = absurd (none-some w is)
follows_map e p (Some v) n f g h k w is =
    let a = h v refl in (g a.0, ap (option_map g) a.1, k v w a.0 a.2 is)

pub follows_then : (e : Entries) (p : Bases) (o : Option Value) (n : Option ℕ) (f : Value → Option Value) (g : ℕ → Option ℕ) → Follows e p o n
    → ((v : Value) (x : ℕ) → Shows e p v x → Follows e p (f v) (g x)) → Follows e p (option_and_then f o) (option_and_then g n)
follows_then e p None n f g h k w is = absurd (none-some w is)
follows_then e p (Some v) n f g h k w is =
    let a = h v refl in let b = k v a.0 a.2 w is in (b.0, ap (option_and_then g) a.1 ∙ b.1, b.2)

if_follows : (e : Entries) (p : Bases) (b : Bool) (o u : Option Value) (n m : Option ℕ) → Follows e p o n → Follows e p u m → Follows e p (if b then o else u) (if b then n else m)
if_follows e p true o u n m h k = h
if_follows e p false o u n m h k = k

-- ---- places

abbrev pub AllFollow : Entries → Bases → Values Location → Numbers → Type 0
AllFollow e p values numbers = (q : Location) → Follows e p (values q) (numbers q)

pub follow_grown : (e : Entries) (p q : Bases) → Grown p q → (values : Values Location) (numbers : Numbers) → AllFollow e p values numbers → AllFollow e q values numbers
follow_grown e p q g values numbers h l v is = let a = h l v is in (a.0, a.1, shows_grown e p q g v a.0 a.2)

pub put_follows : (e : Entries) (p : Bases) (values : Values Location) (numbers : Numbers) (to : Location) (o : Option Value) (n : Option ℕ) → AllFollow e p values numbers → Follows e p o n
    → AllFollow e p (assign located to o values) (put to n numbers)
put_follows e p values numbers to o n h k q = if_follows e p (same_location q to) o (values q) n (numbers q) k (h q)

pub kept_follows : (e : Entries) (p : Bases) (values : Values Location) (numbers : Numbers) → AllFollow e p values numbers → AllFollow e p (values_kept located values) (kept numbers)
kept_follows e p values numbers h q = if_follows e p (is_callers q) None (values q) None (numbers q) (none_follows e p None) (h q)

-- ---- classes

pub taken_shown : (e : Entries) (p : Bases) (k : Class) (v w : Value) (x : ℕ) → Shows e p v x → in_place k v ≡ Some w → Shows e p w (taken k x)
taken_shown e p W (Integer n) w x h is =
    subst (λ (u : Value). Shows e p u (x % 2 ^ 32)) (same_Some (Integer (n % 2 ^ 32)) w is) (ap (λ (m : ℕ). m % 2 ^ 32) h)
taken_shown e p W (Pointer b o) w x h is = absurd (none-some w is)
taken_shown e p W (Function f) w x h is = absurd (none-some w is)
taken_shown e p L v w x h is = subst (λ (u : Value). Shows e p u x) (same_Some v w is) h

pub held_shown : (e : Entries) (p : Bases) (k : Class) (v : Value) (x : ℕ) → Shows e p v x → Passes k v → Shows e p (value_held k v) (held k x)
held_shown e p W (Integer n) x h passes = ap (λ (m : ℕ). sign_extended (m % 2 ^ 32)) h
held_shown e p W (Pointer b o) x h passes = absurd (none-some (Pointer b o) passes)
held_shown e p W (Function f) x h passes = absurd (none-some (Function f) passes)
held_shown e p L v x h passes = h

pub passes_taken : (k : Class) (v w : Value) → in_place k v ≡ Some w → Passes k w
passes_taken W (Integer n) w is = subst (λ (u : Value). in_place W u ≡ Some u) (same_Some (Integer (n % 2 ^ 32)) w is) (ap (λ (m : ℕ). Some (Integer m)) (twice n))
  where
    twice : (n : ℕ) → n % 2 ^ 32 % 2 ^ 32 ≡ n % 2 ^ 32
    twice n = omega arith
passes_taken W (Pointer b o) w is = absurd (none-some w is)
passes_taken W (Function f) w is = absurd (none-some w is)
passes_taken L v w is = refl

-- ---- operands

names_follow : (e : Entries) (p : Bases) (vs : List Value) (xs : List ℕ) → AllShow e p vs xs → (g : ℕ) → Follows e p (slice_get vs g) (slice_get xs g)
names_follow e p [] xs h g = λ v is. absurd (none-some v (sym (slice_get_past [] g (omega arith)) ∙ is))
names_follow e p (v ∷ vs) [] h g = absurd h
names_follow e p (v ∷ vs) (x ∷ xs) h zero = some_follows e p v x h.0
names_follow e p (v ∷ vs) (x ∷ xs) h (suc g) = names_follow e p vs xs h.1 g

pub operand_follows : (e : Entries) (p : Bases) (globals : List Value) (addresses : List ℕ) (values : Values Location) (numbers : Numbers) → AllShow e p globals addresses → AllFollow e p values numbers
    → (a : Operand Location) → Follows e p (value_of globals values a) (number_of addresses numbers a)
operand_follows e p globals addresses values numbers names h (At q) = h q
operand_follows e p globals addresses values numbers names h (Number n) = some_follows e p (Integer (n % 2 ^ 64)) (n % 2 ^ 64) refl
operand_follows e p globals addresses values numbers names h (Name g) = names_follow e p globals addresses names g

pub read_follows : (e : Entries) (p : Bases) (globals : List Value) (addresses : List ℕ) (values : Values Location) (numbers : Numbers) → AllShow e p globals addresses → AllFollow e p values numbers
    → (k : Class) (a : Operand Location) → Follows e p (value_read globals values k a) (read addresses numbers k a)
read_follows e p globals addresses values numbers names h k a =
    follows_map e p (value_of globals values a) (number_of addresses numbers a) (in_place k) (taken k) (operand_follows e p globals addresses values numbers names h a) (taken_shown e p k)

pub read_passes : (k : Class) (o : Option Value) (v : Value) → option_and_then (in_place k) o ≡ Some v → Passes k v
read_passes k None v is = absurd (none-some v is)
read_passes k (Some u) v is = passes_taken k u v is

-- ---- what is passed

claimed_shown : (e : Entries) (p : Bases) (v : Value) (x : ℕ) → Shows e p v x → Follows e p (value_passed Claimed W v) (passed Claimed W x)
claimed_shown e p (Integer n) x h =
    subst (λ (m : ℕ). Follows e p (value_passed Claimed W (Integer n)) (passed Claimed W m)) (sym h)
    (if_follows e p (is_extended n) (in_place W (Integer n)) None (Some (taken W n)) None
    (λ w is. (taken W n, refl, taken_shown e p W (Integer n) w n refl is)) (none_follows e p None))
claimed_shown e p (Pointer b o) x h = none_follows e p (passed Claimed W x)
claimed_shown e p (Function f) x h = none_follows e p (passed Claimed W x)

passed_shown : (e : Entries) (p : Bases) (t : Extension) (k : Class) (v : Value) (x : ℕ) → Shows e p v x → Follows e p (value_passed t k v) (passed t k x)
passed_shown e p Made k v x h = λ w is. (taken k x, refl, taken_shown e p k v w x h is)
passed_shown e p Claimed W v x h = claimed_shown e p v x h
passed_shown e p Claimed L v x h = λ w is. (x, refl, taken_shown e p L v w x h is)

pub passed_follows : (e : Entries) (p : Bases) (globals : List Value) (addresses : List ℕ) (values : Values Location) (numbers : Numbers) → AllShow e p globals addresses → AllFollow e p values numbers
    → (t : Extension) (k : Class) (a : Operand Location)
    → Follows e p (option_and_then (value_passed t k) (value_of globals values a)) (option_and_then (passed t k) (number_of addresses numbers a))
passed_follows e p globals addresses values numbers names h t k a =
    follows_then e p (value_of globals values a) (number_of addresses numbers a) (value_passed t k) (passed t k)
    (operand_follows e p globals addresses values numbers names h a) (passed_shown e p t k)

passed_passes : (t : Extension) (k : Class) (u v : Value) → value_passed t k u ≡ Some v → Passes k v
passed_passes Made k u v is = passes_taken k u v is
passed_passes Claimed L u v is = passes_taken L u v is
passed_passes Claimed W u v is = by (stands_extended u) is
  where
    by : (b : Bool) → (if b then in_place W u else None) ≡ Some v → Passes W v
    by true is = passes_taken W u v is
    by false is = absurd (none-some v is)

pub option_passes : (t : Extension) (k : Class) (o : Option Value) (v : Value) → option_and_then (value_passed t k) o ≡ Some v → Passes k v
option_passes t k None v is = absurd (none-some v is)
option_passes t k (Some u) v is = passed_passes t k u v is

-- ---- arguments

-- where there are values, there are numbers that show them, and the values are of the classes
abbrev pub ArgsFollow : Entries → Bases → List Class → Option (List Value) → Option (List ℕ) → Type 0
ArgsFollow e p cs o n = (vs : List Value) → o ≡ Some vs → (xs : List ℕ) × (n ≡ Some xs) × AllShow e p vs xs × AreArgs cs vs

cons_follow : (e : Entries) (p : Bases) (k : Class) (cs : List Class) (o : Option Value) (n : Option ℕ) (os : Option (List Value)) (ns : Option (List ℕ)) → Follows e p o n → ((v : Value) → o ≡ Some v → Passes k v)
    → ArgsFollow e p cs os ns → ArgsFollow e p (k ∷ cs) (option_and_then (λ v. option_map (λ vs. v ∷ vs) os) o) (option_and_then (λ x. option_map (λ xs. x ∷ xs) ns) n)
cons_follow e p k cs None n os ns h passes all vs is = absurd (none-some vs is)
cons_follow e p k cs (Some v) n None ns h passes all vs is = absurd (none-some vs is)
cons_follow e p k cs (Some v) n (Some us) ns h passes all vs is =
    let a = h v refl in
    let b = all us refl in
    let same : v ∷ us ≡ vs = same_Some (v ∷ us) vs is in (
      a.0 ∷ b.0,
      ap (option_and_then (λ x. option_map (λ xs. x ∷ xs) ns)) a.1 ∙ ap (option_map (λ xs. a.0 ∷ xs)) b.1,
      subst (λ (ws : List Value). AllShow e p ws (a.0 ∷ b.0)) same (a.2, b.2),
      subst (λ (ws : List Value). AreArgs (k ∷ cs) ws) same (passes v refl, b.3),
    )

pub all_follow : (e : Entries) (p : Bases) (globals : List Value) (addresses : List ℕ) (values : Values Location) (numbers : Numbers) → AllShow e p globals addresses → AllFollow e p values numbers
    → (args : List (Argument Location)) → ArgsFollow e p (map (λ a. a.class) args) (values_read globals values args) (read_all addresses numbers args)
all_follow e p globals addresses values numbers names h [] = λ vs is.
    let same : [] ≡ vs = same_Some [] vs is in ([], refl, subst (λ (ws : List Value). AllShow e p ws []) same tt, subst (λ (ws : List Value). AreArgs [] ws) same tt)
all_follow e p globals addresses values numbers names h (a ∷ args) =
    cons_follow e p a.class (map (λ b. b.class) args) (value_argument globals values a) (read_argument addresses numbers a)
    (values_read globals values args) (read_all addresses numbers args) (passed_follows e p globals addresses values numbers names h a.extension a.class a.value)
    (option_passes a.extension a.class (value_of globals values a.value))
    (all_follow e p globals addresses values numbers names h args)

-- ---- the start

pub bound_follow : (e : Entries) (p : Bases) (ds : List (Destination Location)) (vs : List Value) (xs : List ℕ) (values : Values Location) (numbers : Numbers)
    → AllShow e p vs xs → AreArgs (map (λ d. d.class) ds) vs → AllFollow e p values numbers → AllFollow e p (values_bound located values ds vs) (bound numbers ds xs)
bound_follow e p [] vs xs values numbers shown args h = h
bound_follow e p (d ∷ ds) [] xs values numbers shown args h = absurd args
bound_follow e p (d ∷ ds) (v ∷ vs) [] values numbers shown args h = absurd shown
bound_follow e p (d ∷ ds) (v ∷ vs) (x ∷ xs) values numbers shown args h =
    bound_follow e p ds vs xs (put_value located d.place (value_held d.class v) values) (put d.place (Some (held d.class x)) numbers) shown.1 args.1
    (put_follows e p values numbers d.place (Some (value_held d.class v)) (Some (held d.class x)) h
    (some_follows e p (value_held d.class v) (held d.class x) (held_shown e p d.class v x shown.0 args.0)))
