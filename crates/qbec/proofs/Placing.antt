-- Code with calls of candidates in place, on its way through the passes.
use Rattle.std.proofs.Common.{◌≡◌, ◌⊎◌, inl, inr, ℕ, zero, suc, nat_lt, true, List, [], ◌∷◌, ◌++◌, length, map, slice_get, Option, Some, None, refl, sym, ◌∙◌, ap, subst, arith, ◌+◌, Vec, Global, IsTrue, Result, Ok, Err, IfOk, IfSome, slice_index_or}
use Rattle.std.proofs.lemmas.List.{length-map}
use Rattle.std.proofs.lemmas.Bool.Decides.{nat_tests}
use Rattle.std.proofs.lemmas.Option.{slice_get-get_or}
use Rattle.il_ast.specs.declared.operation.Class.{Class}
use Rattle.il_ast.specs.declared.function.Func.{Func}
use Rattle.il_ast.specs.declared.program.InText.{InText}
use Rattle.il_ast.specs.declared.program.Program.{Program}
use Rattle.il_ast.specs.declared.program.Target.{Target}
use Rattle.il_ast.specs.declared.program.Target.TheVariants.{Code}
use Rattle.il_ast.specs.declared.value.Callee.TheVariants.{Defined}
use Rattle.il_ast.specs.Prelude.{Coded, Keeps, IsCodeOf, classes_of, globals_of, values_of, target_value}
use Rattle.vcode.specs.declared.function.VFunc.{VFunc}
use Rattle.vcode.specs.Prelude.{virtual_code, KeepsIn, virtual, begin, step}
use Rattle.vcode.proofs.InPlace.{runs_stay}
use Rattle.vcode.proofs.Lists.{one_more}
use Rattle.inlining.specs.InPlace.{is_candidate, AreCandidates, KeepsCalls}
use Rattle.headline.specs.Executables.{calls_in, body_of, IsCodeIn}
use Rattle.headline.proofs.InPlace.{code_is_in, stays_in}
use Rattle.qbec.specs.Pipeline.{StandPromoted, IsCandidateCode, IsCandidateMeant, AreCandidatesMeant, AreCandidatesAt, AreCandidatesIn, AreCandidatesOf, IsCodeWith, StandWith, StandWithin}
use Rattle.promote.specs.Uses.{IsPromoted}
use Rattle.rv_isa.specs.Prelude.{Words}
use Rattle.asm_layout.specs.declared.call.CallForm.{CallForm}
use Rattle.qbec.proofs.PromotedFunctions.{promoted_at, one_promoted}
use Rattle.qbec.proofs.CandidateCalls.{candidate_goes}

-- ---- one function

abbrev in_text : ℕ → Func → InText Func
in_text text f = record { text = text; item = f }

are_candidates : (p : Program) (text : ℕ) (candidates : List (Option VFunc)) → AreCandidatesOf p text candidates → (turns : ℕ) → AreCandidates (calls_in p turns) turns (globals_of p text) candidates
are_candidates p text candidates are turns g candidate here =
    let l = are g candidate here in record { callee = Defined l.number; is = l.means; goes = candidate_goes p text g candidate l turns }

-- with calls in place
pub placed_is : (candidates : List (Option VFunc)) (f : Func) (v w : VFunc) → IsCodeOf f (virtual_code v) → KeepsCalls candidates v.code w.code → IsCodeWith candidates f (virtual_code w)
placed_is candidates f v w is keeps p text are =
    let globals = globals_of p text in
    record {
      params = keeps.params ∙ is.params;
      result = keeps.result ∙ is.result;
      runs =
          λ turns.
          runs_stay (calls_in p turns) turns (classes_of f.params) (begin virtual v.code) (step virtual globals v.code) (begin virtual w.code) (step virtual globals w.code) (body_of p (in_text text f))
          ((code_is_in p (in_text text f) (virtual_code v) is).runs turns)
          (subst (λ (cs : List Class). KeepsIn (calls_in p turns) turns cs (begin virtual v.code) (step virtual globals v.code) (begin virtual w.code) (step virtual globals w.code)) is.params
          (keeps.runs (calls_in p turns) turns globals (are_candidates p text candidates are turns)));
    }

-- behind a pass
pub stays_with : (candidates : List (Option VFunc)) (f : Func) (c d : Coded) → IsCodeWith candidates f c → Keeps c d → IsCodeWith candidates f d
stays_with candidates f c d is keeps p text are = stays_in p (in_text text f) c d (is p text are) keeps

-- ---- the candidates of a program

pub no_candidates : (p : Program) (text : ℕ) → AreCandidatesOf p text []
no_candidates p text name candidate here = absurd (let no : ⊥ = cc in no)

-- what stands without candidates stands with any
pub stands_anyhow : (form : CallForm) (candidates : List (Option VFunc)) (f : Func) (c : Words) → StandWithin form [] f c → StandWithin form candidates f c
stands_anyhow form candidates f c stands = (λ p text are. stands.0 p text (no_candidates p text), stands.1, stands.2)

-- the code of a function of the program, with calls of candidates of its text in place
pub candidate_is : (p : Program) (text number : ℕ) (below : List (Option VFunc)) (f : InText Func) (candidate : VFunc) → slice_get p.functions number ≡ Some f → f.text ≡ text → AreCandidatesAt p text below → IsCandidateCode below f.item candidate
    → IsCandidateMeant p text (Code (Defined number)) candidate
candidate_is p text number below f candidate here same are l q is =
    let there = promoted_at p.functions q.functions number f is.functions here in
    let item = one_promoted f.item l.promoted there.function.item l.is there.is in
    let at : text ≡ there.function.text = sym (there.text ∙ same) in
    let code = l.code q text (are q is) in
    let moved = subst (λ (g : Func). IsCodeIn q (record { text = text; item = g }) (virtual_code candidate)) item code in
    record {
      number = number;
      function = there.function;
      means = refl;
      here = there.here;
      same = sym at;
      is = subst (λ (t : ℕ). IsCodeIn q (record { text = t; item = there.function.item }) (virtual_code candidate)) at moved;
      calm = l.calm;
    }

pub got_mapped : {X Y : Type 0} (f : X → Y) (xs : List X) (k : ℕ) (x : X) → slice_get xs k ≡ Some x → slice_get (map f xs) k ≡ Some (f x)
got_mapped f [] k x h = absurd (let no : ⊥ = cc in no)
got_mapped f (y ∷ xs) zero x h = let same : y ≡ x = cc in ap (λ z. Some (f z)) same
got_mapped f (y ∷ xs) (suc k) x h = got_mapped f xs k x h

-- candidates that the names of a text mean are candidates of the text
pub candidates_are_at : (p : Program) (text : ℕ) (targets : List Target) (candidates : List (Option VFunc)) → slice_get p.targets text ≡ Some targets → AreCandidatesMeant p text targets candidates → AreCandidatesAt p text candidates
candidates_are_at p text targets candidates texts are q is name candidate here =
    let found = are name candidate here in
    let l = found.1.1 q is in
    record {
      number = l.number;
      function = l.function;
      means =
          ap (λ (ts : List (List Target)). slice_get (values_of (slice_get ts text)) name) is.targets
          ∙ ap (λ (o : Option (List Target)). slice_get (values_of o) name) texts
          ∙ got_mapped target_value targets name found.0 found.1.0
          ∙ ap (λ (t : Target). Some (target_value t)) l.means;
      here = l.here;
      same = l.same;
      is = l.is;
      calm = l.calm;
    }

-- words of a function, with the candidates of its text
pub stand_promoted : (p : Program) (f : InText Func) (candidates : List (Option VFunc)) (c : Words) → AreCandidatesAt p f.text candidates → (promoted : Func) × IsPromoted f.item promoted × StandWith candidates promoted c → StandPromoted p f c
stand_promoted p f candidates c are w = record { promoted = w.0; is = w.1; stand = λ q is. w.2 q f.text (are q is) }

-- ---- one after another

-- what stands in a list with one more at its end
got_behind : {X : Type 0} (xs : List X) (x y : X) (k : ℕ) → slice_get (xs ++ x ∷ []) k ≡ Some y → (slice_get xs k ≡ Some y) ⊎ ((k ≡ length xs) × (x ≡ y))
got_behind [] x y zero h = inr (refl, let same : x ≡ y = cc in same)
got_behind [] x y (suc k) h = absurd (let no : ⊥ = cc in no)
got_behind (z ∷ xs) x y zero h = inl h
got_behind (z ∷ xs) x y (suc k) h = elim (got_behind xs x y k h) [
  | inl here ↦ inl here
  | inr last ↦ inr (ap suc last.0, last.1)
]

pub one_more_candidate : (p : Program) (text : ℕ) (targets : List Target) (candidates : List (Option VFunc)) (o : Option VFunc) (target : Target) → slice_get targets (length candidates) ≡ Some target → IfSome o (λ v. IsCandidateMeant p text target v)
    → AreCandidatesMeant p text targets candidates → AreCandidatesMeant p text targets (candidates ++ o ∷ [])
one_more_candidate p text targets candidates o target at is are name candidate here = elim (got_behind candidates o (Some candidate) name here) [
  | inl before ↦ are name candidate before
  | inr last ↦ (
    target,
    (ap (slice_get targets) last.0 ∙ at, subst (λ (x : Option VFunc). IfSome x (λ v. IsCandidateMeant p text target v)) last.1 is),
  )
]

pub one_more_table : (p : Program) (tables : List (List (Option VFunc))) (candidates : List (Option VFunc)) → AreCandidatesAt p (length tables) candidates → AreCandidatesIn p tables → AreCandidatesIn p (tables ++ candidates ∷ [])
one_more_table p tables candidates is are text found here = elim (got_behind tables candidates found text here) [
  | inl before ↦ are text found before
  | inr last ↦ subst (λ (x : List (Option VFunc)). AreCandidatesAt p text x) last.1 (subst (λ (t : ℕ). AreCandidatesAt p t candidates) (sym last.0) is)
]

-- ---- what is answered

pub got_at : {X : Type 0} (xs : List X) (k : ℕ) (x d : X) → true ≡ nat_lt k (length xs) → x ≡ slice_index_or xs k d → slice_get xs k ≡ Some x
got_at xs k x d low is = slice_get-get_or xs k d (grind (arith, nat_tests)) ∙ ap (λ y. Some y) (sym is)

pub candidate_code_answer : {E : Type 0} (below : List (Option VFunc)) (f promoted : Func) → IsPromoted f promoted → (r : Result (Option VFunc) E)
    → IfOk r (λ o. IfSome o (λ v. IsCodeWith below promoted (virtual_code v) × IsTrue (is_candidate v.code))) → IfOk r (λ o. IfSome o (λ v. IsCandidateCode below f v))
candidate_code_answer below f promoted is (Ok None) h = tt
candidate_code_answer below f promoted is (Ok (Some v)) h = record { promoted = promoted; is = is; code = h.0; calm = h.1 }
candidate_code_answer below f promoted is (Err e) h = tt

pub candidate_answer : {E : Type 0} (p : Program) (text number : ℕ) (below : List (Option VFunc)) (f : InText Func) → slice_get p.functions number ≡ Some f → f.text ≡ text → AreCandidatesAt p text below → (r : Result (Option VFunc) E)
    → IfOk r (λ o. IfSome o (λ v. IsCandidateCode below f.item v)) → IfOk r (λ o. IfSome o (λ v. IsCandidateMeant p text (Code (Defined number)) v))
candidate_answer p text number below f here same are (Ok None) h = tt
candidate_answer p text number below f here same are (Ok (Some v)) h = candidate_is p text number below f v here same are h
candidate_answer p text number below f here same are (Err e) h = tt

pub words_answer : {E : Type 0} (text : ℕ) (f : Func) (candidates : List (Option VFunc)) (tables : List (List (Option VFunc))) → ((p : Program) → AreCandidatesIn p tables → AreCandidatesAt p text candidates) → (r : Result Words E)
    → IfOk r (λ c. (promoted : Func) × IsPromoted f promoted × StandWith candidates promoted c) → IfOk r (λ c. (p : Program) → AreCandidatesIn p tables → StandPromoted p (record { text = text; item = f }) c)
words_answer text f candidates tables at (Ok c) h = λ p are. stand_promoted p (record { text = text; item = f }) candidates c (at p are) h
words_answer text f candidates tables at (Err e) h = tt

-- tables of candidates, one for each text so far
abbrev pub TablesSoFar : Program → List (Vec (Option VFunc) Global) → ℕ → Type 0
TablesSoFar p tables k = (length tables ≡ k) × AreCandidatesIn p (map (λ t. t.items) tables)

pub no_tables : (p : Program) (tables : List (Vec (Option VFunc) Global)) → tables ≡ [] → TablesSoFar p tables 0
no_tables p tables none =
    subst (λ (ts : List (Vec (Option VFunc) Global)). TablesSoFar p ts 0) (sym none) (refl, λ text candidates here. absurd (let no : ⊥ = cc in no))

items_behind : (xs : List (Vec (Option VFunc) Global)) (x : Vec (Option VFunc) Global) → map (λ t. t.items) (xs ++ x ∷ []) ≡ map (λ t. t.items) xs ++ x.items ∷ []
items_behind [] x = refl
items_behind (y ∷ xs) x = ap (λ ts. y.items ∷ ts) (items_behind xs x)

pub more_tables : (p : Program) (tables new : List (Vec (Option VFunc) Global)) (candidates : Vec (Option VFunc) Global) (k : ℕ) → new ≡ tables ++ candidates ∷ [] → TablesSoFar p tables k → AreCandidatesAt p k candidates.items
    → TablesSoFar p new (k + 1)
more_tables p tables new candidates k is so_far at =
    let long : length (map (λ (t : Vec (Option VFunc) Global). t.items) tables) ≡ k = length-map tables (λ t. t.items) ∙ so_far.0 in (
      ap length is ∙ one_more tables candidates ∙ ap (λ n. n + 1) so_far.0,
      subst (λ (ts : List (List (Option VFunc))). AreCandidatesIn p ts) (sym (ap (map (λ t. t.items)) is ∙ items_behind tables candidates))
          (one_more_table p (map (λ t. t.items) tables) candidates.items (subst (λ (n : ℕ). AreCandidatesAt p n candidates.items) (sym long) at) so_far.1),
    )

-- candidates of the names of a text so far
abbrev pub CandidatesSoFar : Program → (text : ℕ) → List Target → List (Option VFunc) → ℕ → Type 0
CandidatesSoFar p text targets candidates k = (length candidates ≡ k) × AreCandidatesMeant p text targets candidates

pub candidates_none : (p : Program) (text : ℕ) (targets : List Target) (candidates : List (Option VFunc)) → candidates ≡ [] → CandidatesSoFar p text targets candidates 0
candidates_none p text targets candidates none =
    subst (λ (ls : List (Option VFunc)). CandidatesSoFar p text targets ls 0) (sym none) (refl, λ name candidate here. absurd (let no : ⊥ = cc in no))

pub more_candidates : (p : Program) (text : ℕ) (targets : List Target) (candidates new : List (Option VFunc)) (o : Option VFunc) (target : Target) (k : ℕ) → new ≡ candidates ++ o ∷ [] → CandidatesSoFar p text targets candidates k
    → slice_get targets k ≡ Some target → IfSome o (λ v. IsCandidateMeant p text target v) → CandidatesSoFar p text targets new (k + 1)
more_candidates p text targets candidates new o target k is so_far at meant = (
  ap length is ∙ one_more candidates o ∙ ap (λ n. n + 1) so_far.0,
  subst (λ (ls : List (Option VFunc)). AreCandidatesMeant p text targets ls) (sym is)
      (one_more_candidate p text targets candidates o target (ap (slice_get targets) so_far.0 ∙ at) meant so_far.1),
)
