-- The second code is the first, rewritten under claims.
use Rattle.std.specs.Prelude.{Option, Some, None, ℕ, List, map, Bool, nat_eq, if◌then◌else◌, option_map, option_and_then, ◌≡◌, [], ◌∷◌, length, slice_get, nat_le, IsTrue}
use Rattle.vcode.specs.Types.{Destination, Line, Tick, Set, Operate, Load, Store, Alloc, Blit, Call, Code, VFunc, LFunc, Argument, Compare, Jump, Goto, Branch, Return, Halt, Block}
use Rattle.il_ast.specs.declared.value.Value.{Value}
use Rattle.il_ast.specs.Prelude.{Memory, Coded, byte_count, store, copy, Call as Calling, stored_class, fresh, Given, AreArgs, Keeps}
use Rattle.vcode.specs.Places.{Values, Places, virtual, located, assign, unknown}
use Rattle.il_ast.specs.declared.operation.Class.{Class}
use Rattle.vcode.specs.Step.{State, begin, step, value_of, read, read_result, read_all, operated, address_of, bound}
use Rattle.il_ast.specs.declared.value.Value.TheVariants.{Integer, Function, Pointer}
use Rattle.vcode.specs.Operations.{loaded, held}
use Rattle.il_ast.specs.declared.limits.TheConstants.{FUNCTION_WEIGHT}
use Rattle.vcode.specs.Named.{keeps_places, is_below}
use Rattle.vcode.specs.Regular.{IsRegular, code_weight}

-- ---- the place that a line writes
abbrev pub place_of : {P : Type 0} → Option (Destination P) → Option P
place_of None = None
place_of (Some d) = Some d.place

abbrev pub line_writes : {P : Type 0} → Line P → Option P
line_writes (Tick turn w) = None
line_writes (Set to a) = Some to
line_writes (Operate to op a b) = Some to
line_writes (Load to op at) = Some to
line_writes (Store size a at) = None
line_writes (Alloc to size) = to
line_writes (Blit from to count) = None
line_writes (Call to callee args) = place_of to

-- ---- what a pass claims of the code before it and the code after it, run side by side: they have the
-- same memory and have spent the same, and their registers hold what the claim says.

-- the claims that a pass makes; what each says of global names, of memory and of the registers of
-- both codes; and which may be made where the one and the other enter these blocks
pub record Claims : Type 1 where
  pub Claim : Type 0
  pub holds : Claim → List Value → Memory → (before after : Values ℕ) → Type 0
  pub arrives : Claim → (before after : ℕ) → Type 0

-- ---- virtual code and location code as passes see them

-- the classes of the values that parameters take
abbrev pub classes_in : {P : Type 0} → List (Destination P) → List Class
classes_in params = map (λ d. d.class) params

-- code over places of one kind
abbrev pub coded : {P : Type 0} → Places P → Code P → Coded
coded {P} c f =
    record {
      State = State P;
      params = classes_in f.params;
      result = f.result;
      start = begin c f;
      step = λ globals. step c globals f;
    }

abbrev pub virtual_code : VFunc → Coded
virtual_code v = coded virtual v.code

abbrev pub location_code : LFunc → Coded
location_code l = coded located l.code

-- ---- what lines and jumps do in values alone: apart from the register that is written, from where the
-- code stands, and from what was spent so far.
-- ---- lines

-- it is undefined; it spends; it gives its register a value, known or not; it leaves another
-- memory; it makes a block of memory and gives its register a pointer to it; it makes a call
pub data Act : Type 0 where
  Fails : Act
  Spends : (turn : Bool) → (weight : ℕ) → Act
  Gives : Option Value → Act
  Leaves : Memory → Act
  Makes : (size : ℕ) → Act
  Asks : Calling → Act

abbrev pub given : Option Value → Act
given None = Fails
given (Some v) = Gives (Some v)

abbrev pub left : Option Memory → Act
left None = Fails
left (Some m) = Leaves m

abbrev pub asked : Option (Destination ℕ) → List (Argument ℕ) → Option Value → Option (List Value) → Act
asked to args (Some (Function f)) (Some vs) =
    Asks
    (record {
      callee = f;
      classes = map (λ (a : Argument ℕ). a.class) args;
      wants = option_map (λ (d : Destination ℕ). d.class) to;
      args = vs;
    })
asked to args f vs = Fails

abbrev pub act : List Value → Memory → Values ℕ → Line ℕ → Act
act globals m values (Tick turn w) = Spends turn w
act globals m values (Set to a) = Gives (value_of globals values a)
act globals m values (Operate to op a b) =
    Gives (operated m op (value_of globals values a) (value_of globals values b))
act globals m values (Load to op at) =
    given (option_and_then (loaded m op) (address_of globals m values at))
act globals m values (Store size a at) =
    left
    (option_and_then
    (λ v. option_and_then (λ p. store m (byte_count size) p v) (address_of globals m values at))
    (read globals values (stored_class size) a))
act globals m values (Alloc to size) = Makes size
act globals m values (Blit from to count) =
    left
    (option_and_then (λ p. option_and_then (λ q. copy m count p q) (value_of globals values to))
    (value_of globals values from))
act globals m values (Call to callee args) =
    asked to args (value_of globals values callee) (read_all globals values args)

-- the registers after one of them was given a value, if one is written
abbrev pub written : Option ℕ → Option Value → Values ℕ → Values ℕ
written None o values = values
written (Some r) o values = assign virtual r o values

-- ---- jumps

-- it is undefined; it enters a block; it returns; it ends the run
pub data Way : Type 0 where
  Lost : Way
  Enters : (block : ℕ) → Way
  Answers : Option Value → Way
  Halts : Way

abbrev pub entering : (met otherwise : ℕ) → Option Value → Way
entering met otherwise (Some (Integer n)) = Enters (if nat_eq n 0 then otherwise else met)
entering met otherwise v = Lost

abbrev pub answering : Option Value → Way
answering None = Lost
answering (Some v) = Answers (Some v)

abbrev pub way : List Value → Option Class → Memory → Values ℕ → Jump ℕ → Way
way globals result m values (Goto k) = Enters k
way globals result m values (Branch on met otherwise) =
    entering met otherwise
    (operated m (Compare on.condition on.class) (value_of globals values on.left)
    (value_of globals values on.right))
way globals result m values (Return None) = Answers None
way globals None m values (Return (Some a)) = Lost
way globals (Some k) m values (Return (Some a)) = answering (read_result globals values k a)
way globals result m values Halt = Halts

-- ---- what is left of a block of the code before a pass, beside what is left of one of the code after
-- it, under a claim that holds there.

-- behind a call of which a value of this class is wanted, if one is, whatever it gives and whatever
-- memory it leaves
abbrev pub BehindCall : (Memory → Values ℕ → Values ℕ → Type 0) → (to to2 : Option ℕ) →
    (before after : Values ℕ) → (wanted : Option Class) → Type 0
BehindCall holds to to2 before after None = (next : Memory) → holds next before after
BehindCall holds to to2 before after (Some k) =
    (next : Memory) (v : Value) →
    holds next (written to (Some (held k v)) before) (written to2 (Some (held k v)) after)

-- where the one does something the other does the same, but that it may give its register another
-- value; and this holds behind both
abbrev pub DoAlike : (Memory → Values ℕ → Values ℕ → Type 0) → Memory → (to to2 : Option ℕ) →
    (before after : Values ℕ) → Act → Act → Type 0
DoAlike holds memory to to2 before after Fails b = Unit {0}
DoAlike holds memory to to2 before after (Spends turn w) b =
    (b ≡ Spends turn w) × holds memory before after
DoAlike holds memory to to2 before after (Gives o) b =
    (p : Option Value) × ((b ≡ Gives p) × holds memory (written to o before) (written to2 p after))
DoAlike holds memory to to2 before after (Leaves next) b = (b ≡ Leaves next) × holds next before after
DoAlike holds memory to to2 before after (Makes size) b =
    (b ≡ Makes size)
    × holds (fresh memory size) (written to (Some (Pointer (length memory) 0)) before)
    (written to2 (Some (Pointer (length memory) 0)) after)
DoAlike holds memory to to2 before after (Asks call) b =
    (b ≡ Asks call) × BehindCall holds to to2 before after call.wants

-- a line of each
abbrev pub Alike : (c : Claims) → (p q : c.Claim) → (l m : Line ℕ) → Type 0
Alike c p q l m =
    (globals : List Value) (memory : Memory) (before after : Values ℕ) →
    c.holds p globals memory before after →
    DoAlike (c.holds q globals) memory (line_writes l) (line_writes m) before after
    (act globals memory before l) (act globals memory after m)

-- it does no more than give a value, with which this holds
abbrev pub OnlyGives : (Option Value → Type 0) → Act → Type 0
OnlyGives holds Fails = Unit {0}
OnlyGives holds (Gives o) = holds o
OnlyGives holds a = ⊥

-- a line of the code before, for which the code after has none
abbrev pub MayGo : (c : Claims) → (p q : c.Claim) → Line ℕ → Type 0
MayGo c p q l =
    (globals : List Value) (memory : Memory) (before after : Values ℕ) →
    c.holds p globals memory before after →
    OnlyGives (λ o. c.holds q globals memory (written (line_writes l) o before) after)
    (act globals memory before l)

-- a line of the code after, for which the code before has none: it is defined
abbrev pub MayCome : (c : Claims) → (p q : c.Claim) → Line ℕ → Type 0
MayCome c p q m =
    (globals : List Value) (memory : Memory) (before after : Values ℕ) →
    c.holds p globals memory before after →
    (o : Option Value)
    × ((act globals memory after m ≡ Gives o)
    × c.holds q globals memory before (written (line_writes m) o after))

-- the same end, or blocks at which a claim arrives that holds
abbrev pub Arrives : (c : Claims) → List Value → Memory → (before after : Values ℕ) → Way → Way →
    Type 0
Arrives c globals memory before after Lost y = Unit {0}
Arrives c globals memory before after (Enters k) y =
    (n : ℕ)
    × ((y ≡ Enters n)
    × ((q : c.Claim) × (c.arrives q k n × c.holds q globals memory before after)))
Arrives c globals memory before after (Answers o) y = y ≡ Answers o
Arrives c globals memory before after Halts y = y ≡ Halts

abbrev pub LeadAlike : (c : Claims) → Option Class → c.Claim → Jump ℕ → Jump ℕ → Type 0
LeadAlike c result p j k =
    (globals : List Value) (memory : Memory) (before after : Values ℕ) →
    c.holds p globals memory before after →
    Arrives c globals memory before after (way globals result memory before j)
    (way globals result memory after k)

-- Both jump; both do a line; a line is gone, or has come; the one, or the other, goes on into a
-- block alone; less is claimed from here on.
pub data Follows (c : Claims) (v w : Code ℕ) : c.Claim → List (Line ℕ) → Jump ℕ → List (Line ℕ) → Jump ℕ → Type 0 where
  Jumps : {p : c.Claim} {j k : Jump ℕ} → LeadAlike c v.result p j k → Follows c v w p [] j [] k
  Both : {p q : c.Claim} {l m : Line ℕ} {ls ms : List (Line ℕ)} {j k : Jump ℕ} → Alike c p q l m → Follows c v w q ls j ms k → Follows c v w p (l ∷ ls) j (m ∷ ms) k
  Gone : {p q : c.Claim} {l : Line ℕ} {ls ms : List (Line ℕ)} {j k : Jump ℕ} → MayGo c p q l → Follows c v w q ls j ms k → Follows c v w p (l ∷ ls) j ms k
  Come : {p q : c.Claim} {m : Line ℕ} {ls ms : List (Line ℕ)} {j k : Jump ℕ} → MayCome c p q m → Follows c v w q ls j ms k → Follows c v w p ls j (m ∷ ms) k
  FirstOn : {p : c.Claim} {n : ℕ} {b : Block ℕ} {ms : List (Line ℕ)} {k : Jump ℕ} → slice_get v.blocks n ≡ Some b → Follows c v w p b.lines b.jump ms k → Follows c v w p [] (Goto n) ms k
  SecondOn : {p : c.Claim} {n : ℕ} {b : Block ℕ} {ls : List (Line ℕ)} {j : Jump ℕ} → slice_get w.blocks n ≡ Some b → Follows c v w p ls j b.lines b.jump → Follows c v w p ls j [] (Goto n)
  Less : {p q : c.Claim} {ls ms : List (Line ℕ)} {j k : Jump ℕ} → ((globals : List Value) (memory : Memory) (before after : Values ℕ) → c.holds p globals memory before after → c.holds q globals memory before after) → Follows c v w q ls j ms k → Follows c v w p ls j ms k

-- it has the same result; a claim arrives at the first blocks, which holds of what parameters are
-- given; and where a claim arrives at blocks, the second follows the first
pub record Rewrites (c : Claims) (v w : Code ℕ) : Type 0 where
  pub result : w.result ≡ v.result
  pub first : c.Claim
  pub arrives : c.arrives first 0 0
  pub begins : (globals : List Value) (i : Given)
      → AreArgs (classes_in v.params) i.args
      → c.holds first globals i.memory (bound virtual unknown v.params i.args)
      (bound virtual unknown w.params i.args)
  pub follows : (p : c.Claim) (k n : ℕ)
      → c.arrives p k n
      → (b : Block ℕ)
      → slice_get v.blocks k ≡ Some b
      → (d : Block ℕ)
      × ((slice_get w.blocks n ≡ Some d) × Follows c v w p b.lines b.jump d.lines d.jump)

-- ---- what a pass owes of the blocks that it makes of a function's

-- the code with other blocks
abbrev pub with_these : Code ℕ → List (Block ℕ) → Code ℕ
with_these f blocks = record { result = f.result; params = f.params; blocks = blocks }

-- with these blocks over so many registers the function is code that there may be, and keeps what it did
pub record Becomes (v : VFunc) (registers : ℕ) (blocks : List (Block ℕ)) : Type 0 where
  pub regular : IsRegular (with_these v.code blocks)
  pub light : IsTrue (nat_le (code_weight (with_these v.code blocks)) FUNCTION_WEIGHT)
  pub known : IsTrue (keeps_places (is_below registers) (with_these v.code blocks))
  pub keeps : Keeps (virtual_code v) (coded virtual (with_these v.code blocks))
