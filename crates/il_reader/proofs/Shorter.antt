-- What a rule reads makes the rest shorter.
use Rattle.std.proofs.Common.{◌≡◌, ℕ, ◌<◌, ◌≤◌, List, [], ◌∷◌, length, Option, Some, None, sym, ap, arith, ⊎_elim, subst}
use Rattle.il_lex.specs.declared.kind.Symbol.{Symbol as Mark}
use Rattle.il_lex.specs.declared.kind.Kind.TheVariants.{Symbol, Newline, Word, Global, Temp, Label, Natural, Negative, Quoted}
use Rattle.il_reader.specs.Prelude.{State}
use Rattle.il_reader.specs.Rules as rule
use Rattle.il_reader.specs.Grammar as grammar
use Rattle.il_reader.specs.Reads as reads
use Rattle.il_reader.proofs.Exact.{token_less}

-- the rest gets no longer
pub record Keeps {A : Type 0} (r : rule.Rule A) : Type 0 where
  pub no_more : (s : State) (x : A) (s' : State) → r s x s' → length s'.rest ≤ length s.rest

-- the rest gets shorter
pub record Shortens {A : Type 0} (r : rule.Rule A) : Type 0 where
  pub less : (s : State) (x : A) (s' : State) → r s x s' → length s'.rest < length s.rest

pub keeps : {A : Type 0} (r : rule.Rule A) → Shortens r → Keeps r
keeps r h = record { no_more = λ s x s' w. let l = h.less s x s' w in omega arith }

pub give_keeps : {A : Type 0} (x : A) → Keeps (rule.give x)
give_keeps x = record { no_more = λ s y s' w. let e : length s'.rest ≡ length s.rest = ap (λ m. length m.rest) w.1 in omega arith }

pub line_keeps : Keeps rule.line
line_keeps = record { no_more = λ s y s' w. let e : length s'.rest ≡ length s.rest = ap (λ m. length m.rest) w.1 in omega arith }

pub then_keeps : {A B : Type 0} (p : rule.Rule A) (q : A → rule.Rule B) → Keeps p → ((x : A) → Keeps (q x)) → Keeps (rule.◌>>=◌ p q)
then_keeps p q hp hq = record { no_more = λ s y s' w. let first = hp.no_more s w.0 w.1 w.2 in let second = (hq w.0).no_more w.1 y s' w.3 in omega arith }

pub first_shortens : {A B : Type 0} (p : rule.Rule A) (q : A → rule.Rule B) → Shortens p → ((x : A) → Keeps (q x)) → Shortens (rule.◌>>=◌ p q)
first_shortens p q hp hq = record { less = λ s y s' w. let first = hp.less s w.0 w.1 w.2 in let second = (hq w.0).no_more w.1 y s' w.3 in omega arith }

pub second_shortens : {A B : Type 0} (p : rule.Rule A) (q : A → rule.Rule B) → Keeps p → ((x : A) → Shortens (q x)) → Shortens (rule.◌>>=◌ p q)
second_shortens p q hp hq = record { less = λ s y s' w. let first = hp.no_more s w.0 w.1 w.2 in let second = (hq w.0).less w.1 y s' w.3 in omega arith }

pub either_shortens : {A : Type 0} (p q : rule.Rule A) → Shortens p → Shortens q → Shortens (rule.◌∥◌ p q)
either_shortens p q hp hq = record { less = λ s x s' w. ⊎_elim (λ u. hp.less s x s' u) (λ u. hq.less s x s' u) w }

pub either_keeps : {A : Type 0} (p q : rule.Rule A) → Keeps p → Keeps q → Keeps (rule.◌∥◌ p q)
either_keeps p q hp hq = record { no_more = λ s x s' w. ⊎_elim (λ u. hp.no_more s x s' u) (λ u. hq.no_more s x s' u) w }

pub maybe_keeps : {A : Type 0} (p : rule.Rule A) → Keeps p → Keeps (rule.maybe p)
maybe_keeps {A} p hp = record { no_more = at }
  where
    at : (s : State) (o : Option A) (s' : State) → rule.maybe p s o s' → length s'.rest ≤ length s.rest
    at s None s' w = let e : length s'.rest ≡ length s.rest = ap (λ m. length m.rest) w in omega arith
    at s (Some x) s' w = hp.no_more s x s' w

pub many_keeps : {A : Type 0} (p : rule.Rule A) → Keeps p → Keeps (rule.many p)
many_keeps {A} p hp = record { no_more = at }
  where
    at : (s : State) (xs : List A) (s' : State) → rule.many p s xs s' → length s'.rest ≤ length s.rest
    at s [] s' w = let e : length s'.rest ≡ length s.rest = ap (λ m. length m.rest) w in omega arith
    at s (x ∷ xs) s' w = let first = hp.no_more s x w.0 w.1 in let second = at w.0 xs s' w.2 in omega arith

pub some_shortens : {A : Type 0} (p : rule.Rule A) → Shortens p → Shortens (rule.some p)
some_shortens p hp = first_shortens p _ hp λ x. then_keeps (rule.many p) _ (many_keeps p (keeps p hp)) λ xs. give_keeps (x ∷ xs)

pub commas_shortens : {A : Type 0} (c : rule.Rule (Unit {0})) (p : rule.Rule A) → Keeps c → Shortens p → Shortens (rule.commas c p)
commas_shortens c p hc hp = first_shortens p _ hp λ x.
    then_keeps (rule.many (rule.◌>>◌ c p)) _ (many_keeps (rule.◌>>◌ c p) (then_keeps c _ hc λ _. keeps p hp)) λ xs.
    then_keeps (rule.maybe c) _ (maybe_keeps c hc) λ _. give_keeps (x ∷ xs)

pub listed_keeps : {A : Type 0} (c : rule.Rule (Unit {0})) (p : rule.Rule A) → Keeps c → Shortens p → Keeps (rule.listed c p)
listed_keeps c p hc hp = either_keeps (rule.commas c p) (rule.give []) (keeps _ (commas_shortens c p hc hp)) (give_keeps [])

-- ---- tokens

pub piece_shortens : (mark : Mark) → Shortens (rule.piece mark)
piece_shortens mark = record { less = λ s x s' h. subst (λ m. length m.rest < length s.rest) (sym h.3.1) (token_less (Symbol mark) s h.0 h.1 h.2) }

pub newline_shortens : Shortens rule.newline
newline_shortens = record { less = λ s x s' h. subst (λ m. length m.rest < length s.rest) (sym h.3.1) (token_less Newline s h.0 h.1 h.2) }

pub word_shortens : (text : List ℕ) → Shortens (rule.word text)
word_shortens text = record { less = λ s x s' h. token_less Word s text s' h }

pub natural_shortens : Shortens rule.natural
natural_shortens = record { less = λ s n s' h. token_less (Natural n) s h.0 s' h.1 }

pub integer_shortens : Shortens rule.integer
integer_shortens = record { less = λ s n s' h. ⊎_elim (λ w. token_less (Natural n) s w.0 s' w.1) (λ w. token_less (Negative n) s w.0 s' w.1) h }

pub string_shortens : Shortens rule.string
string_shortens = record { less = λ s n s' h. token_less Quoted s h.0 s' h.1 }

pub temp_shortens : Shortens rule.temp
temp_shortens = record { less = λ s n s' h. subst (λ m. length m.rest < length s.rest) (sym h.4) (token_less Temp s (37 ∷ h.0) h.1 h.2) }

pub label_shortens : Shortens rule.label
label_shortens = record { less = λ s n s' h. subst (λ m. length m.rest < length s.rest) (sym h.4) (token_less Label s (64 ∷ h.0) h.1 h.2) }

pub symbol_shortens : Shortens rule.symbol
symbol_shortens = record { less = λ s n s' h. subst (λ m. length m.rest < length s.rest) (sym h.4) (token_less Global s (36 ∷ h.0) h.1 h.2) }

-- ---- lines

pub class_shortens : Shortens grammar.class
class_shortens = record { less = λ s c s' h. (word_shortens _).less s tt s' h }

pub value_shortens : Shortens grammar.value
value_shortens =
    either_shortens _ _ (first_shortens rule.integer _ integer_shortens λ n. give_keeps _)
    (either_shortens _ _ (first_shortens rule.temp _ temp_shortens λ n. give_keeps _) (first_shortens rule.symbol _ symbol_shortens λ n. give_keeps _))

pub newlines_keep : Keeps rule.newlines
newlines_keep = many_keeps rule.newline (keeps rule.newline newline_shortens)

pub on_line_shortens : {A : Type 0} (p : rule.Rule A) → Keeps p → Shortens (reads.on_line p)
on_line_shortens p hp = second_shortens p _ hp λ x. first_shortens (rule.some rule.newline) _ (some_shortens rule.newline newline_shortens) λ _. give_keeps x

pub destination_shortens : Shortens grammar.destination
destination_shortens =
    first_shortens rule.temp _ temp_shortens λ t.
    then_keeps (rule.piece _) _ (keeps _ (piece_shortens _)) λ _.
    then_keeps grammar.class _ (keeps grammar.class class_shortens) λ c. give_keeps _

pub comma_keeps : Keeps grammar.comma
comma_keeps = keeps grammar.comma (piece_shortens _)

pub phi_argument_shortens : Shortens grammar.phi_argument
phi_argument_shortens =
    first_shortens rule.label _ label_shortens λ l.
    then_keeps grammar.value _ (keeps grammar.value value_shortens) λ v. give_keeps _

pub argument_shortens : Shortens grammar.argument
argument_shortens =
    first_shortens grammar.class _ class_shortens λ c.
    then_keeps grammar.value _ (keeps grammar.value value_shortens) λ v. give_keeps _

pub phi_shortens : Shortens grammar.phi
phi_shortens =
    second_shortens rule.line _ line_keeps λ n.
    first_shortens grammar.destination _ destination_shortens λ to.
    then_keeps (rule.word _) _ (keeps _ (word_shortens _)) λ _.
    then_keeps (rule.commas grammar.comma grammar.phi_argument) _ (keeps _ (commas_shortens grammar.comma grammar.phi_argument comma_keeps phi_argument_shortens)) λ args.
    give_keeps _

value_keeps : Keeps grammar.value
value_keeps = keeps grammar.value value_shortens

unary_keeps : Keeps grammar.unary
unary_keeps =
    then_keeps grammar.destination _ (keeps grammar.destination destination_shortens) λ to.
    then_keeps grammar.unary_operation _ (record {
      no_more = λ s op s' h. ⊎_elim
          (λ w. (keeps _ (word_shortens _)).no_more s tt s' w) (λ w. (keeps _ (word_shortens _)).no_more s tt s' w.1) h;
    }) λ op.
    then_keeps grammar.value _ value_keeps λ v. give_keeps _

binary_keeps : Keeps grammar.binary
binary_keeps =
    then_keeps grammar.destination _ (keeps grammar.destination destination_shortens) λ to.
    then_keeps grammar.binary_operation _ (record { no_more = λ s op s' h. (keeps _ (word_shortens _)).no_more s tt s' h }) λ op.
    then_keeps grammar.value _ value_keeps λ a.
    then_keeps grammar.comma _ comma_keeps λ _.
    then_keeps grammar.value _ value_keeps λ b. give_keeps _

allocation_keeps : Keeps grammar.allocation
allocation_keeps =
    then_keeps grammar.destination _ (keeps grammar.destination destination_shortens) λ to.
    then_keeps grammar.alloc _ (record { no_more = λ s a s' h. (keeps _ (word_shortens _)).no_more s tt s' h }) λ a.
    then_keeps rule.natural _ (keeps rule.natural natural_shortens) λ size. give_keeps _

storing_keeps : Keeps grammar.storing
storing_keeps =
    then_keeps grammar.store _ (record { no_more = λ s a s' h. (keeps _ (word_shortens _)).no_more s tt s' h }) λ size.
    then_keeps grammar.value _ value_keeps λ v.
    then_keeps grammar.comma _ comma_keeps λ _.
    then_keeps grammar.value _ value_keeps λ at. give_keeps _

blit_keeps : Keeps grammar.blit
blit_keeps =
    then_keeps (rule.word _) _ (keeps _ (word_shortens _)) λ _.
    then_keeps grammar.value _ value_keeps λ from.
    then_keeps grammar.comma _ comma_keeps λ _.
    then_keeps grammar.value _ value_keeps λ to.
    then_keeps grammar.comma _ comma_keeps λ _.
    then_keeps rule.natural _ (keeps rule.natural natural_shortens) λ count. give_keeps _

call_keeps : Keeps grammar.call
call_keeps =
    then_keeps (rule.maybe grammar.destination) _ (maybe_keeps grammar.destination (keeps grammar.destination destination_shortens)) λ to.
    then_keeps (rule.word _) _ (keeps _ (word_shortens _)) λ _.
    then_keeps grammar.value _ value_keeps λ callee.
    then_keeps (rule.piece _) _ (keeps _ (piece_shortens _)) λ _.
    then_keeps (rule.listed grammar.comma grammar.argument) _ (listed_keeps grammar.comma grammar.argument comma_keeps argument_shortens) λ args.
    then_keeps (rule.piece _) _ (keeps _ (piece_shortens _)) λ _. give_keeps _

pub instruction_keeps : Keeps grammar.instruction
instruction_keeps =
    then_keeps rule.line _ line_keeps λ n.
    then_keeps _ _ (either_keeps _ _ unary_keeps (either_keeps _ _ binary_keeps (either_keeps _ _ allocation_keeps (either_keeps _ _ storing_keeps (either_keeps _ _ blit_keeps call_keeps))))) λ i.
    give_keeps _

pub jump_keeps : Keeps grammar.jump
jump_keeps =
    then_keeps rule.line _ line_keeps λ n.
    then_keeps _ _ (either_keeps _ _ goto_keeps (either_keeps _ _ branch_keeps (either_keeps _ _ returning_keeps halt_keeps))) λ j.
    give_keeps _
  where
    goto_keeps : Keeps grammar.goto
    goto_keeps = then_keeps (rule.word _) _ (keeps _ (word_shortens _)) λ _. then_keeps rule.label _ (keeps rule.label label_shortens) λ l. give_keeps _

    branch_keeps : Keeps grammar.branch
    branch_keeps =
        then_keeps (rule.word _) _ (keeps _ (word_shortens _)) λ _.
        then_keeps grammar.value _ value_keeps λ v.
        then_keeps grammar.comma _ comma_keeps λ _.
        then_keeps rule.label _ (keeps rule.label label_shortens) λ l.
        then_keeps grammar.comma _ comma_keeps λ _.
        then_keeps rule.label _ (keeps rule.label label_shortens) λ l. give_keeps _

    returning_keeps : Keeps grammar.returning
    returning_keeps = then_keeps (rule.word _) _ (keeps _ (word_shortens _)) λ _. then_keeps (rule.maybe grammar.value) _ (maybe_keeps grammar.value value_keeps) λ v. give_keeps _

    halt_keeps : Keeps grammar.halt
    halt_keeps = then_keeps (rule.word _) _ (keeps _ (word_shortens _)) λ _. give_keeps _
