-- Segments read one after another are the file's segments; a file loads as one executable at most, and a refused file as none.
use Rattle.std.proofs.Common.{◌≡◌, ℕ, zero, suc, ◌+◌, ◌%◌, ◌<◌, ◌≤◌, Bool, true, false, List, [], ◌∷◌, ◌++◌, length, refl, sym, ◌∙◌, ap, subst, arith, inl, inr, drop, slice_get, Some, length-append, add-one, length-take, Result, Ok, Err, MatchResult, IfOk, IfErr, ◌⊎◌}
use Rattle.std.proofs.lemmas.Bool.Decides.{nat_tests}
use Rattle.std.proofs.lemmas.Option.{slice_get_within, none-some, same_Some}
use Rattle.obj_link.specs.Prelude.{code_start, image_end}
use Rattle.elf_file.specs.declared.flags.Flags.{Flags}
use Rattle.elf_file.specs.declared.headers.ProgramHeader.{ProgramHeader}
use Rattle.elf_file.specs.declared.error.LoadError.{LoadError}
use Rattle.elf_file.specs.declared.error.LoadError.TheVariants.{CutOff, OtherKind, OutOfRange, Misplaced, BadEntry, Memory}
use Rattle.elf_file.specs.Conditions.{file_header, program_header, Mapping, Executable, IsMapping, IsExecutable, has_entry, HasHeaders, Maps, MapsAll, Loads, lowest, is_loadable, is_placed, Refuses, RefusesSegment}

-- no segment before the first
pub MapsAll-none : (file : List ℕ) → MapsAll file 0 []
MapsAll-none file = record { number = refl; each = λ k m e. absurd (none-some m e) }

-- an element of a list with one more at its end is one of the list, or the last
slice_get-push : {X : Type 0} (xs : List X) (y : X) (k : ℕ) (x : X) → slice_get (xs ++ y ∷ []) k ≡ Some x → (slice_get xs k ≡ Some x) ⊎ ((k ≡ length xs) × (y ≡ x))
slice_get-push [] y zero x e = inr (refl, same_Some y x e)
slice_get-push [] y (suc k) x e = absurd (none-some x e)
slice_get-push (z ∷ zs) y zero x e = inl e
slice_get-push (z ∷ zs) y (suc k) x e =
    elim (slice_get-push zs y k x e) [ inl h ↦ inl h | inr h ↦ inr (omega (arith, h.0), h.1) ]

-- one segment more
pub MapsAll-push : (file : List ℕ) (count : ℕ) (ms : List Mapping) (m : Mapping) → MapsAll file count ms
    → Maps file (lowest file count) (program_header file count) m
    → MapsAll file (count + 1) (ms ++ m ∷ [])
MapsAll-push file count ms m all next = record {
  number = omega (arith, length-append ms (m ∷ []), all.number);
  each = λ k n e. elim (slice_get-push ms m k n e) [
    | inl h ↦ all.each k n h
    | inr h ↦ (let at : count ≡ k = omega (arith, h.0, all.number) in let is = h.1 in rw (← at, ← is) next)
  ];
}

-- the end of a segment is the lowest address of the next
pub lowest-next : (file : List ℕ) (k low : ℕ) (m : Mapping) → Maps file low (program_header file k) m → m.address + m.size ≡ lowest file (k + 1)
lowest-next file k low m maps = rw (add-one k) cc

-- the loop's next state: one segment more, and its end
pub next-segment : (file : List ℕ) (k low address size : ℕ) (h : ProgramHeader) (ms ns : List Mapping) (m : Mapping)
    → MapsAll file k ms × (low ≡ lowest file k) × (code_start ≤ low)
    → h ≡ program_header file k
    → Maps file low h m
    → ns ≡ ms ++ m ∷ []
    → address ≡ m.address
    → size ≡ m.size
    → code_start ≤ m.address
    → MapsAll file (k + 1) ns × (address + size ≡ lowest file (k + 1)) × (code_start ≤ address + size)
next-segment file k low address size h ms ns m before header maps pushed begins has above =
    let P : ℕ → ProgramHeader → Type 0 = λ l g. Maps file l g m in
    let there : Maps file (lowest file k) (program_header file k) m = subst (λ l. P l (program_header file k)) before.1 (subst (P low) header maps) in
    let all : MapsAll file (k + 1) (ms ++ m ∷ []) = MapsAll-push file k ms m before.0 there in
    let ends : m.address + m.size ≡ lowest file (k + 1) = lowest-next file k (lowest file k) m there in
    (rw pushed all, rw (begins, has) ends, omega (arith, begins, above))

-- what refuses a segment refuses the file
refuses-segment : (e : LoadError) (file : List ℕ) (k : ℕ) → HasHeaders file → k < (file_header file).e_phnum
    → RefusesSegment e file (lowest file k) (program_header file k) → Refuses e file
refuses-segment CutOff file k headers within h = inr (inr (k, within, omega (arith, headers.whole), h))
refuses-segment OtherKind file k headers within h = absurd h
refuses-segment OutOfRange file k headers within h = (headers.long_enough, inr (k, within, omega (arith, headers.whole), h))
refuses-segment Misplaced file k headers within h = (k, within, omega (arith, headers.whole), h)
refuses-segment BadEntry file k headers within h = absurd h
refuses-segment Memory file k headers within h = tt

-- the same for the loop's values
pub Refuses-segment : (e : LoadError) (file : List ℕ) (k count low : ℕ) (h : ProgramHeader) → HasHeaders file → count ≡ (file_header file).e_phnum
    → k < count
    → low ≡ lowest file k
    → h ≡ program_header file k
    → RefusesSegment e file low h
    → Refuses e file
Refuses-segment e file k count low h headers number within at header refused =
    let P : ℕ → ProgramHeader → Type 0 = λ l g. RefusesSegment e file l g in
    refuses-segment e file k headers (omega (arith, number, within)) (subst (λ l. P l (program_header file k)) at (subst (P low) header refused))

-- a list has an element at each place below its length
present : {X : Type 0} (xs : List X) (k : ℕ) → k < length xs → (x : X) × (slice_get xs k ≡ Some x)
present [] k h = absurd (omega arith)
present (x ∷ xs) zero h = (x, refl)
present (x ∷ xs) (suc k) h = present xs k (omega arith)

-- lists of one length that agree at each place are one list
same_list : {X : Type 0} (xs ys : List X) → length xs ≡ length ys
    → ((k : ℕ) (x y : X) → slice_get xs k ≡ Some x → slice_get ys k ≡ Some y → x ≡ y)
    → xs ≡ ys
same_list [] [] e h = refl
same_list [] (y ∷ ys) e h = absurd (omega arith)
same_list (x ∷ xs) [] e h = absurd (omega arith)
same_list (x ∷ xs) (y ∷ ys) e h =
    let head : x ≡ y = h 0 x y refl refl in
    let rest : xs ≡ ys = same_list xs ys (omega arith) (λ k a b p q. h (suc k) a b p q) in
    cc

abbrev mapping : ℕ → Flags → ℕ → List ℕ → Mapping
mapping address flags size bytes = record { address = address; flags = flags; size = size; file_bytes = bytes }

abbrev executable : ℕ → List Mapping → Executable
executable entry mappings = record { entry = entry; mappings = mappings }

-- a segment is its parts
same_mapping : (m n : Mapping) → m.address ≡ n.address → m.flags ≡ n.flags → m.size ≡ n.size → m.file_bytes ≡ n.file_bytes → m ≡ n
same_mapping m n address flags size bytes =
    ap (λ a. mapping a m.flags m.size m.file_bytes) address ∙ ap (λ f. mapping n.address f m.size m.file_bytes) flags
    ∙ ap (λ s. mapping n.address n.flags s m.file_bytes) size
    ∙ ap (λ b. mapping n.address n.flags n.size b) bytes

-- a program header puts one segment into memory
Maps-unique : (file : List ℕ) (low : ℕ) (h : ProgramHeader) (m n : Mapping) → Maps file low h m → Maps file low h n → m ≡ n
Maps-unique file low h m n a b =
    same_mapping m n (a.p_vaddr ∙ sym b.p_vaddr) (same_Some m.flags n.flags (a.p_flags ∙ sym b.p_flags)) (a.p_memsz ∙ sym b.p_memsz)
    (a.p_filesz ∙ sym b.p_filesz)

-- an executable is its parts
same_executable : (x y : Executable) → x.entry ≡ y.entry → x.mappings ≡ y.mappings → x ≡ y
same_executable x y entry mappings = ap (λ e. executable e x.mappings) entry ∙ ap (λ ms. executable y.entry ms) mappings

-- a file has one list of segments
MapsAll-unique : (file : List ℕ) (count : ℕ) (ms ns : List Mapping) → MapsAll file count ms → MapsAll file count ns → ms ≡ ns
MapsAll-unique file count ms ns a b =
    same_list ms ns (a.number ∙ sym b.number)
    (λ k m n p q. Maps-unique file (lowest file k) (program_header file k) m n (a.each k m p) (b.each k n q))

-- a file loads as one executable
pub Loads-unique : (file : List ℕ) (x y : Executable) → Loads file x → Loads file y → x ≡ y
Loads-unique file x y a b =
    same_executable x y (a.entry ∙ sym b.entry) (MapsAll-unique file (file_header file).e_phnum x.mappings y.mappings a.segments b.segments)

-- a segment that is placed stands at or above the lowest address, and below the stack
placed : (low : ℕ) (h : ProgramHeader) → is_placed low h ≡ true → (low ≤ h.p_vaddr) × (h.p_vaddr + h.p_memsz ≤ image_end)
placed low h e = (grind (arith, nat_tests), grind (arith, nat_tests))

-- a segment that is loadable is not empty, and has its file's bytes in it
loadable : (h : ProgramHeader) → is_loadable h ≡ true → (0 < h.p_memsz) × (h.p_filesz ≤ h.p_memsz)
loadable h e = (grind (arith, nat_tests), grind (arith, nat_tests))

-- each segment's lowest address is at or above the start of the code
lowest-above : (file : List ℕ) (count : ℕ) (ms : List Mapping) → MapsAll file count ms → (k : ℕ) → k ≤ count → code_start ≤ lowest file k
lowest-above file count ms all zero h = omega arith
lowest-above file count ms all (suc k) h =
    let below = lowest-above file count ms all k (omega arith) in
    let found = present ms k (omega (arith, all.number)) in
    let stands = placed (lowest file k) (program_header file k) (all.each k found.0 found.1).placed in
    omega (arith, below, stands.0)

-- a loaded segment keeps what each keeps
Maps-IsMapping : (file : List ℕ) (low : ℕ) (h : ProgramHeader) (m : Mapping) → code_start ≤ low → Maps file low h m → IsMapping m
Maps-IsMapping file low h m above maps =
    let full = loadable h maps.loadable in
    let stands = placed low h maps.placed in
    record {
      not_empty = rw maps.p_memsz full.0;
      file_part = rw (maps.p_filesz, maps.p_memsz) (omega (arith, full.1, length-take h.p_filesz (drop h.p_offset file)));
      above_start = rw maps.p_vaddr (omega (arith, stands.0));
      below_stack = rw (maps.p_vaddr, maps.p_memsz) stands.1;
    }

-- what a file loads as keeps what every executable keeps
pub IsExecutable-from_segments : (file : List ℕ) (x : Executable) (count : ℕ) → MapsAll file count x.mappings → x.entry % 4 ≡ 0 → has_entry x.entry x.mappings ≡ true
    → IsExecutable x
IsExecutable-from_segments file x count all aligned in_code = record {
  each = λ k m e. (
      let within = slice_get_within x.mappings k m e in
      Maps-IsMapping file (lowest file k) (program_header file k) m (lowest-above file count x.mappings all k (omega (arith, within, all.number))) (all.each k m e)
      );
  rising = λ k a b p q. (
      let end = lowest-next file k (lowest file k) a (all.each k a p) in
      let next = all.each (k + 1) b q in
      let stands = placed (lowest file (k + 1)) (program_header file (k + 1)) next.placed in
      omega (arith, end, stands.0, next.p_vaddr)
      );
  aligned = aligned;
  in_code = in_code;
}

-- a true test is not false
not_both : (b : Bool) → b ≡ true → b ≡ false → ⊥
not_both b p q = cc

-- what is said of a segment of the file is said of one that loads
loaded_segment : (file : List ℕ) (x : Executable) → Loads file x → (k : ℕ) → k < (file_header file).e_phnum
    → (m : Mapping) × Maps file (lowest file k) (program_header file k) m
loaded_segment file x loads k h =
    let found = present x.mappings k (omega (arith, h, loads.segments.number)) in
    (found.0, loads.segments.each k found.0 found.1)

-- a file that loads is refused for want of memory only
pub Refuses-loaded : (e : LoadError) (file : List ℕ) (x : Executable) → Loads file x → Refuses e file → e ≡ Memory
Refuses-loaded CutOff file x loads (inl h) = absurd (omega (arith, h, loads.headers.long_enough))
Refuses-loaded CutOff file x loads (inr (inl h)) = absurd (omega (arith, h, loads.headers.whole))
Refuses-loaded CutOff file x loads (inr (inr h)) = absurd (not_both _ (loaded_segment file x loads h.0 h.1).1.whole h.3)
Refuses-loaded OtherKind file x loads h = elim h.1 [
  | inl p ↦ absurd (not_both _ loads.headers.ident p)
  | inr p ↦ absurd (not_both _ loads.headers.kind p)
]
Refuses-loaded OutOfRange file x loads h = elim h.1 [
  | inl p ↦ absurd (not_both _ loads.headers.table p)
  | inr p ↦ absurd (not_both _ (loaded_segment file x loads p.0 p.1).1.loadable p.3)
]
Refuses-loaded Misplaced file x loads h = absurd (not_both _ (loaded_segment file x loads h.0 h.1).1.placed h.3)
Refuses-loaded BadEntry file x loads (inl h) = absurd (h (ap (λ e. e % 4) (sym loads.entry) ∙ loads.aligned))
Refuses-loaded BadEntry file x loads (inr h) =
    let mappings : x.mappings ≡ h.0 = MapsAll-unique file (file_header file).e_phnum x.mappings h.0 loads.segments h.1 in
    absurd (not_both _ loads.in_code (ap (λ e. has_entry e x.mappings) loads.entry ∙ ap (has_entry (file_header file).e_entry) mappings ∙ h.2))
Refuses-loaded Memory file x loads h = refl

-- what is loaded is the one executable that the file loads as
pub loaded-only : (file : List ℕ) (r : Result Executable LoadError) → MatchResult r (λ x. Loads file x) (λ e. Refuses e file)
    → IfOk r (λ x. (y : Executable) → Loads file y → y ≡ x)
loaded-only file (Ok x) loads = λ y other. Loads-unique file y x other loads
loaded-only file (Err e) refuses = tt

-- a file that loads is refused for want of memory only
pub loaded-refused : (file : List ℕ) (r : Result Executable LoadError) → MatchResult r (λ x. Loads file x) (λ e. Refuses e file)
    → IfErr r (λ e. (y : Executable) → Loads file y → e ≡ Memory)
loaded-refused file (Ok x) loads = tt
loaded-refused file (Err e) refuses = λ y loads. Refuses-loaded e file y loads refuses
