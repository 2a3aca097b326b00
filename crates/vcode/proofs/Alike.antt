-- Lines of two codes do alike where they do the same, and a claim holds whatever they may leave.
use Rattle.std.proofs.Common.{◌≡◌, ℕ, List, length, Option, Some, None, refl, subst, option_and_then}
use Rattle.il_ast.specs.declared.operation.Class.{Class}
use Rattle.il_ast.specs.declared.value.Value.{Value}
use Rattle.il_ast.specs.declared.value.Value.TheVariants.{Integer, Pointer, Function}
use Rattle.il_ast.specs.Prelude.{byte_count, Memory, store, copy, fresh, stored_class}
use Rattle.vcode.specs.Prelude.{Destination, Argument, Line, Tick, Set, Operate, Load, Store, Alloc, Blit, Call, held, loaded, Values, value_of, read, read_all, address_of, place_of, line_writes, Act, Fails, Spends, Gives, Leaves, Makes, Asks, given, left, asked, act, written, BehindCall, DoAlike}

-- it isn't undefined
abbrev pub Works : Act → Type 0
Works Fails = ⊥
Works a = Unit {0}

-- a value that a call may give where one of this class is wanted
abbrev pub MayAnswer : Option Class → Option Value → Type 0
MayAnswer None o = Unit {0}
MayAnswer (Some k) o = (v : Value) × (o ≡ Some (held k v))

-- a value that the register may be given, if one is written, and the memory that may be left
abbrev pub MayLeave : Memory → Act → Option Value → Memory → Type 0
MayLeave m Fails o next = ⊥
MayLeave m (Spends turn w) o next = next ≡ m
MayLeave m (Gives v) o next = (o ≡ v) × (next ≡ m)
MayLeave m (Leaves n) o next = next ≡ n
MayLeave m (Makes size) o next = (o ≡ Some (Pointer (length m) 0)) × (next ≡ fresh m size)
MayLeave m (Asks call) o next = MayAnswer call.wants o

-- ---- a line that gives no value writes no register, nor a call of which none is wanted

abbrev pub WritesNone : Option ℕ → Act → Type 0
WritesNone to (Spends turn w) = to ≡ None
WritesNone to (Leaves m) = to ≡ None
WritesNone to (Asks call) = call.wants ≡ None → to ≡ None
WritesNone to a = Unit {0}

given_writes : (to : Option ℕ) (o : Option Value) → WritesNone to (given o)
given_writes to None = tt
given_writes to (Some v) = tt

left_writes : (o : Option Memory) → WritesNone None (left o)
left_writes None = tt
left_writes (Some m) = refl

asked_writes : (to : Option (Destination ℕ)) (args : List (Argument ℕ)) (x : Option Value) (vs : Option (List Value)) → WritesNone (place_of to) (asked to args x vs)
asked_writes None args (Some (Function g)) (Some vs) = λ e. refl
asked_writes (Some d) args (Some (Function g)) (Some vs) = λ e. absurd (let never : ⊥ = cc in never)
asked_writes to args (Some (Function g)) None = tt
asked_writes to args (Some (Integer k)) vs = tt
asked_writes to args (Some (Pointer b k)) vs = tt
asked_writes to args None vs = tt

pub writes_none : (globals : List Value) (m : Memory) (values : Values ℕ) (l : Line ℕ) → WritesNone (line_writes l) (act globals m values l)
writes_none globals m values (Tick turn w) = refl
writes_none globals m values (Set to a) = tt
writes_none globals m values (Operate to op a b) = tt
writes_none globals m values (Load to op at) = given_writes (Some to) (option_and_then (loaded m op) (address_of globals m values at))
writes_none globals m values (Store size a at) =
    left_writes (option_and_then (λ v. option_and_then (λ p. store m (byte_count size) p v) (address_of globals m values at)) (read globals values (stored_class size) a))
writes_none globals m values (Alloc to size) = tt
writes_none globals m values (Blit from to count) =
    left_writes (option_and_then (λ p. option_and_then (λ q. copy m count p q) (value_of globals values to)) (value_of globals values from))
writes_none globals m values (Call to callee args) = asked_writes to args (value_of globals values callee) (read_all globals values args)

-- ---- what does the same

module _ (holds : Memory → Values ℕ → Values ℕ → Type 0) (memory : Memory) (to to2 : Option ℕ) (before after : Values ℕ) where
  abbrev Behind : Act → Type 0
  Behind a = (o : Option Value) (next : Memory) → MayLeave memory a o next → holds next (written to o before) (written to2 o after)

  pub none_written : (next : Memory) (o : Option Value) → to ≡ None → to2 ≡ None → holds next (written to o before) (written to2 o after) → holds next before after
  none_written next o e f h =
      subst (λ (x : Option ℕ). holds next before (written x o after)) f (subst (λ (x : Option ℕ). holds next (written x o before) (written to2 o after)) e h)

  pub answers_alike : (k : Option Class) → (k ≡ None → to ≡ None) → (k ≡ None → to2 ≡ None) → ((o : Option Value) (next : Memory) → MayAnswer k o → holds next (written to o before) (written to2 o after))
      → BehindCall holds to to2 before after k
  answers_alike None e f behind = λ next. none_written next None (e refl) (f refl) (behind None next tt)
  answers_alike (Some k) e f behind = λ next v. behind (Some (held k v)) next (v, refl)

  same_alike : (a b : Act) → WritesNone to a → WritesNone to2 b → (Works a → b ≡ a) → Behind a → DoAlike holds memory to to2 before after a b
  same_alike Fails b e f same behind = tt
  same_alike (Spends turn w) b e f same behind =
      (same tt, none_written memory None e (subst (WritesNone to2) (same tt) f) (behind None memory refl))
  same_alike (Gives o) b e f same behind = (o, (same tt, behind o memory (refl, refl)))
  same_alike (Leaves next) b e f same behind = (same tt, none_written next None e (subst (WritesNone to2) (same tt) f) (behind None next refl))
  same_alike (Makes size) b e f same behind = (same tt, behind (Some (Pointer (length memory) 0)) (fresh memory size) (refl, refl))
  same_alike (Asks call) b e f same behind = (same tt, answers_alike call.wants e (subst (WritesNone to2) (same tt) f) behind)

-- lines with one effect, where it is one
pub lines_alike : (holds : Memory → Values ℕ → Values ℕ → Type 0) (globals : List Value) (memory : Memory) (before after : Values ℕ) (l m : Line ℕ)
    → (Works (act globals memory before l) → act globals memory after m ≡ act globals memory before l)
    → ((o : Option Value) (next : Memory) → MayLeave memory (act globals memory before l) o next → holds next (written (line_writes l) o before) (written (line_writes m) o after))
    → DoAlike holds memory (line_writes l) (line_writes m) before after (act globals memory before l) (act globals memory after m)
lines_alike holds globals memory before after l m same behind =
    same_alike holds memory (line_writes l) (line_writes m) before after (act globals memory before l) (act globals memory after m) (writes_none globals memory before l)
    (writes_none globals memory after m) same behind
