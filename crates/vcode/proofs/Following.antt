-- Lines and jumps of code whose registers hold at least as much: they do the same, but that lines may give more.
use Rattle.std.proofs.Common.{◌≡◌, ℕ, Bool, true, false, nat_eq, if◌then◌else◌, List, [], ◌∷◌, length, Option, Some, None, refl, sym, ◌∙◌, ap, subst, option_map, option_and_then}
use Rattle.il_ast.specs.declared.operation.Class.{Class}
use Rattle.il_ast.specs.declared.value.Value.{Value}
use Rattle.il_ast.specs.declared.value.Value.TheVariants.{Integer, Pointer, Function}
use Rattle.il_ast.specs.Prelude.{byte_count, in_place, Memory, store, copy, fresh, stored_class}
use Rattle.rv_isa.specs.declared.instruction.RegOp.TheVariants.{Add}
use Rattle.vcode.specs.Prelude.{Operand, At, Number, Name, Address, Argument, Destination, Line, Tick, Set, Operate, Load, Store, Alloc, Blit, Call, Reg, Compare, Jump, Goto, Branch, Return, Halt, distance, passed, operate, loaded, Values, value_of, read, read_argument, read_result, read_all, operated, address_of, line_writes, Act, Fails, Spends, Gives, Leaves, Makes, Asks, given, left, asked, act, written, Way, Lost, entering, answering, way, DoAlike}
use Rattle.vcode.proofs.Alike.{MayLeave, WritesNone, writes_none, none_written, answers_alike}

-- ---- what holds at least as much

-- what the second is, where there is one, is the first
abbrev pub Follows : {X : Type 0} → Option X → Option X → Type 0
Follows {X} p o = (x : X) → o ≡ Some x → p ≡ Some x

pub follows_then : {X Y : Type 0} (p o : Option X) (f g : X → Option Y) → Follows p o → ((x : X) → Follows (g x) (f x)) → Follows (option_and_then g p) (option_and_then f o)
follows_then p None f g a b y h = cc
follows_then p (Some x) f g a b y h = ap (option_and_then g) (a x refl) ∙ b x y h

pub follows_map : {X Y : Type 0} (p o : Option X) (f : X → Y) → Follows p o → Follows (option_map f p) (option_map f o)
follows_map p None f a y h = cc
follows_map p (Some x) f a y h = ap (option_map f) (a x refl) ∙ h

abbrev pub AllFollow : {P : Type 0} → (el ev : Values P) → Type 0
AllFollow {P} el ev = (p : P) → Follows (el p) (ev p)

-- ---- operands

operand_follows : {P : Type 0} (globals : List Value) (ev el : Values P) (a : Operand P) → AllFollow el ev → Follows (value_of globals el a) (value_of globals ev a)
operand_follows globals ev el (At p) all = all p
operand_follows globals ev el (Number n) all = λ v e. e
operand_follows globals ev el (Name g) all = λ v e. e

-- what is done with an operand's value
pub then_follows : {P Y : Type 0} (globals : List Value) (ev el : Values P) (a : Operand P) (act : Value → Option Y) → AllFollow el ev → Follows (option_and_then act (value_of globals el a)) (option_and_then act (value_of globals ev a))
then_follows globals ev el a act all = follows_then (value_of globals el a) (value_of globals ev a) act act (operand_follows globals ev el a all) (λ x y e. e)

two_follow : {P Y : Type 0} (globals : List Value) (ev el : Values P) (a b : Operand P) (act : Value → Value → Option Y) → AllFollow el ev
    → Follows (option_and_then (λ u. option_and_then (λ v. act u v) (value_of globals el b)) (value_of globals el a))
    (option_and_then (λ u. option_and_then (λ v. act u v) (value_of globals ev b)) (value_of globals ev a))
two_follow globals ev el a b act all =
    follows_then (value_of globals el a) (value_of globals ev a) (λ u. option_and_then (λ v. act u v) (value_of globals ev b)) (λ u. option_and_then (λ v. act u v) (value_of globals el b))
    (operand_follows globals ev el a all) (λ u. then_follows globals ev el b (act u) all)

address_follows : {P : Type 0} (globals : List Value) (m : Memory) (ev el : Values P) (at : Address P) → AllFollow el ev → Follows (address_of globals m el at) (address_of globals m ev at)
address_follows globals m ev el at all = by (nat_eq (distance at) 0)
  where
    by : (b : Bool) → Follows (if b then value_of globals el at.base else operated m (Reg Add) (value_of globals el at.base) (value_of globals el (Number (distance at))))
        (if b then value_of globals ev at.base else operated m (Reg Add) (value_of globals ev at.base) (value_of globals ev (Number (distance at))))
    by true = operand_follows globals ev el at.base all
    by false = two_follow globals ev el at.base (Number (distance at)) (operate m (Reg Add)) all

args_follow : {P : Type 0} (globals : List Value) (ev el : Values P) (args : List (Argument P)) → AllFollow el ev → Follows (read_all globals el args) (read_all globals ev args)
args_follow globals ev el [] all = λ v e. e
args_follow globals ev el (a ∷ args) all =
    follows_then (read_argument globals el a) (read_argument globals ev a) (λ v. option_map (λ vs. v ∷ vs) (read_all globals ev args)) (λ v. option_map (λ vs. v ∷ vs) (read_all globals el args))
    (then_follows globals ev el a.value (passed a.extension a.class) all)
    (λ v. follows_map (read_all globals el args) (read_all globals ev args) (λ vs. v ∷ vs) (args_follow globals ev el args all))

-- ---- what lines and jumps do

-- an act that is the other, where that isn't undefined, but that it may give more
abbrev pub ActFollows : (more less : Act) → Type 0
ActFollows b Fails = Unit {0}
ActFollows b (Gives o) = (p : Option Value) × ((b ≡ Gives p) × Follows p o)
ActFollows b a = b ≡ a

given_follows : (p o : Option Value) → Follows p o → ActFollows (given p) (given o)
given_follows p None follows = tt
given_follows p (Some v) follows = (Some v, (ap given (follows v refl), λ x e. e))

left_follows : (p o : Option Memory) → Follows p o → ActFollows (left p) (left o)
left_follows p None follows = tt
left_follows p (Some m) follows = ap left (follows m refl)

asked_follows : (to : Option (Destination ℕ)) (args : List (Argument ℕ)) (x y : Option Value) (vs ws : Option (List Value)) → Follows y x → Follows ws vs → ActFollows (asked to args y ws) (asked to args x vs)
asked_follows to args None y vs ws fx fv = tt
asked_follows to args (Some (Integer k)) y vs ws fx fv = tt
asked_follows to args (Some (Pointer b k)) y vs ws fx fv = tt
asked_follows to args (Some (Function g)) y None ws fx fv = tt
asked_follows to args (Some (Function g)) y (Some vs) ws fx fv = ap (λ (z : Option Value). asked to args z ws) (fx (Function g) refl) ∙ ap (asked to args (Some (Function g))) (fv vs refl)

pub act_follows : (globals : List Value) (m : Memory) (ev el : Values ℕ) (l : Line ℕ) → AllFollow el ev → ActFollows (act globals m el l) (act globals m ev l)
act_follows globals m ev el (Tick turn w) all = refl
act_follows globals m ev el (Set to a) all = (value_of globals el a, (refl, operand_follows globals ev el a all))
act_follows globals m ev el (Operate to op a b) all =
    (operated m op (value_of globals el a) (value_of globals el b), (refl, two_follow globals ev el a b (operate m op) all))
act_follows globals m ev el (Load to op at) all =
    given_follows (option_and_then (loaded m op) (address_of globals m el at)) (option_and_then (loaded m op) (address_of globals m ev at))
    (follows_then (address_of globals m el at) (address_of globals m ev at) (loaded m op) (loaded m op) (address_follows globals m ev el at all) (λ x y e. e))
act_follows globals m ev el (Store size a at) all =
    left_follows
    (option_and_then (λ v. option_and_then (λ p. store m (byte_count size) p v) (address_of globals m el at)) (read globals el (stored_class size) a))
    (option_and_then (λ v. option_and_then (λ p. store m (byte_count size) p v) (address_of globals m ev at)) (read globals ev (stored_class size) a))
    (follows_then (read globals el (stored_class size) a) (read globals ev (stored_class size) a)
    (λ v. option_and_then (λ p. store m (byte_count size) p v) (address_of globals m ev at)) (λ v. option_and_then (λ p. store m (byte_count size) p v) (address_of globals m el at))
    (then_follows globals ev el a (in_place (stored_class size)) all)
    (λ v. follows_then (address_of globals m el at) (address_of globals m ev at) (λ p. store m (byte_count size) p v) (λ p. store m (byte_count size) p v)
    (address_follows globals m ev el at all) (λ x y e. e)))
act_follows globals m ev el (Alloc to size) all = refl
act_follows globals m ev el (Blit from to count) all =
    left_follows
    (option_and_then (λ p. option_and_then (λ q. copy m count p q) (value_of globals el to)) (value_of globals el from))
    (option_and_then (λ p. option_and_then (λ q. copy m count p q) (value_of globals ev to)) (value_of globals ev from))
    (two_follow globals ev el from to (λ p q. copy m count p q) all)
act_follows globals m ev el (Call to callee args) all =
    asked_follows to args (value_of globals ev callee) (value_of globals el callee) (read_all globals ev args) (read_all globals el args)
    (operand_follows globals ev el callee all) (args_follow globals ev el args all)

-- ---- lines that do alike

module _ (holds : Memory → Values ℕ → Values ℕ → Type 0) (memory : Memory) (to to2 : Option ℕ) (before after : Values ℕ) where
  follow_alike : (a b : Act) → WritesNone to a → WritesNone to2 a → ActFollows b a
      → ((o p : Option Value) (next : Memory) → MayLeave memory a o next → Follows p o → holds next (written to o before) (written to2 p after)) → DoAlike holds memory to to2 before after a b
  follow_alike Fails b e f h behind = tt
  follow_alike (Spends turn w) b e f h behind = (h, none_written holds memory to to2 before after memory None e f (behind None None memory refl (λ x g. g)))
  follow_alike (Gives o) b e f h behind = (h.0, (h.1.0, behind o h.0 memory (refl, refl) h.1.1))
  follow_alike (Leaves next) b e f h behind = (h, none_written holds memory to to2 before after next None e f (behind None None next refl (λ x g. g)))
  follow_alike (Makes size) b e f h behind =
      let o : Option Value = Some (Pointer (length memory) 0) in (h, behind o o (fresh memory size) (refl, refl) (λ x g. g))
  follow_alike (Asks call) b e f h behind = (h, answers_alike holds memory to to2 before after call.wants e f (λ o next may. behind o o next may (λ x g. g)))

pub assign_follows : (to : Option ℕ) (o p : Option Value) (ev el : Values ℕ) → Follows p o → AllFollow el ev → AllFollow (written to p el) (written to o ev)
assign_follows None o p ev el follows all q = all q
assign_follows (Some k) o p ev el follows all q = by (nat_eq q k)
  where
    by : (b : Bool) → Follows (if b then p else el q) (if b then o else ev q)
    by true = follows
    by false = all q

-- with registers that hold at least as much behind them too
pub lines_follow : (holds : Memory → Values ℕ → Values ℕ → Type 0) (globals : List Value) (memory : Memory) (before after : Values ℕ) (l m : Line ℕ) → line_writes m ≡ line_writes l → AllFollow after before
    → ActFollows (act globals memory after m) (act globals memory before l)
    → ((o : Option Value) (next : Memory) (new : Values ℕ) → MayLeave memory (act globals memory before l) o next → AllFollow new (written (line_writes l) o before) → holds next (written (line_writes l) o before) new)
    → DoAlike holds memory (line_writes l) (line_writes m) before after (act globals memory before l) (act globals memory after m)
lines_follow holds globals memory before after l m writes all h behind =
    subst (λ (to2 : Option ℕ). DoAlike holds memory (line_writes l) to2 before after (act globals memory before l) (act globals memory after m)) (sym writes)
    (follow_alike holds memory (line_writes l) (line_writes l) before after (act globals memory before l) (act globals memory after m) (writes_none globals memory before l) (writes_none globals memory before l) h
    (λ o p next may follows. behind o next (written (line_writes l) p after) may (assign_follows (line_writes l) o p before after follows all)))

-- ---- jumps

-- a way that is the other, where that isn't undefined
abbrev pub WayFollows : (more less : Way) → Type 0
WayFollows b Lost = Unit {0}
WayFollows b a = b ≡ a

entering_follows : (met otherwise : ℕ) (p o : Option Value) → Follows p o → WayFollows (entering met otherwise p) (entering met otherwise o)
entering_follows met otherwise p None follows = tt
entering_follows met otherwise p (Some (Integer n)) follows = ap (entering met otherwise) (follows (Integer n) refl)
entering_follows met otherwise p (Some (Pointer b n)) follows = tt
entering_follows met otherwise p (Some (Function g)) follows = tt

answering_follows : (p o : Option Value) → Follows p o → WayFollows (answering p) (answering o)
answering_follows p None follows = tt
answering_follows p (Some v) follows = ap answering (follows v refl)

pub way_follows : (globals : List Value) (result : Option Class) (m : Memory) (ev el : Values ℕ) (j : Jump ℕ) → AllFollow el ev → WayFollows (way globals result m el j) (way globals result m ev j)
way_follows globals result m ev el (Goto k) all = refl
way_follows globals result m ev el (Branch on met otherwise) all =
    entering_follows met otherwise (operated m (Compare on.condition on.class) (value_of globals el on.left) (value_of globals el on.right))
    (operated m (Compare on.condition on.class) (value_of globals ev on.left) (value_of globals ev on.right)) (two_follow globals ev el on.left on.right (operate m (Compare on.condition on.class)) all)
way_follows globals result m ev el (Return None) all = refl
way_follows globals None m ev el (Return (Some a)) all = tt
way_follows globals (Some k) m ev el (Return (Some a)) all =
    answering_follows (read_result globals el k a) (read_result globals ev k a) (then_follows globals ev el a.value (passed a.extension k) all)
way_follows globals result m ev el Halt all = refl
