-- What was put, from what was reported.
use Rattle.std.proofs.Common.{◌≡◌, ◌≢◌, ℕ, List, [], ◌∷◌, Option, refl, sym, subst, inl, inr, arith, ◌⊎◌}
use Rattle.std.specs.Prelude.{◌++◌, codes, decimal}
use Rattle.outer_files.specs.Outside.{Contents, Known, Rose, RoseBy}
use Rattle.whopr_words.specs.Commands.{Spoken}
use Rattle.rv64_meaning.specs.Machine.{Outcome, Running, Ended, Trapped}
use Rattle.whopr_top.specs.Lines.{line, outcome_line, kind_word, object_word, object_place, quantity_word, resolution_word, resolution_place, spaced}
use Rattle.whopr_top.specs.Answers.{Exactly, lines_of, IsQuiet, CanBeSilent, IsLine, PutsFault, PutsLine, after_fault, WasPut}
use Rattle.whopr_top.specs.Attempts.{Lined, Judged}
use Rattle.whopr_top.specs.Refusal.{Reports, Tells, refusal_line, status_of}
use Rattle.whopr_top.specs.declared.refusal.Refusal.{Refusal}
use Rattle.whopr_top.specs.declared.refusal.Refusal.TheVariants.{NoCommand, Object, TooLong, TooMuch, Limit, Read, ReadOf, Write, Memory, Resolution, Text, Jobs, Image}

line_is : (limit : ℕ) (held new : Option Contents) (command : Option Spoken) (before now status : ℕ) (text : List ℕ) → Lined limit command held status text
    → Judged limit command held new before now status text → IsLine limit held command status text
line_is limit held new command before now status text lined judged = record {
  done = judged.done_line;
  quiet = lined.quiet;
  silent = lined.silent;
  words = lined.words;
  object = lined.object;
  over = lined.over;
  limited = judged.large_line;
  read = lined.read;
  write = lined.write;
  memory = lined.memory;
  resolution = lined.resolution;
  spelled = lined.spelled;
  jobs = lined.jobs;
  image = lined.image;
  refused = judged.refused_line;
}

memory_line : (limit : ℕ) (held : Option Contents) (command : Option Spoken) → IsLine limit held command 7 (refusal_line Memory)
memory_line limit held command = record {
  done = λ is. grind (arith, is);
  quiet = λ is. grind (arith, is);
  silent = λ is. grind (arith, is);
  words = λ is. grind (arith, is);
  object = λ is. grind (arith, is);
  over = λ is. grind (arith, is);
  limited = λ is. grind (arith, is);
  read = λ is. grind (arith, is);
  write = λ is. grind (arith, is);
  memory = λ is. refl;
  resolution = λ is. grind (arith, is);
  spelled = λ is. grind (arith, is);
  jobs = λ is. grind (arith, is);
  image = λ is. grind (arith, is);
  refused = λ is. grind (arith, is);
}

same_status : (status : ℕ) → status ≢ 0 → after_fault status ≡ status
same_status status not_0 = grind (arith, not_0)

-- ---- no refusal has the status of a command that was done, or an empty line

pub not_done : (refusal : Refusal) → status_of refusal ≢ 0
not_done NoCommand = λ is. grind (arith, is)
not_done (Object number fault) = λ is. grind (arith, is)
not_done TooLong = λ is. grind (arith, is)
not_done TooMuch = λ is. grind (arith, is)
not_done (Limit passed) = λ is. grind (arith, is)
not_done (Read name) = λ is. grind (arith, is)
not_done (ReadOf name) = λ is. grind (arith, is)
not_done (Write name) = λ is. grind (arith, is)
not_done Memory = λ is. grind (arith, is)
not_done (Resolution kind place) = λ is. grind (arith, is)
not_done (Text at kind) = λ is. grind (arith, is)
not_done (Jobs number) = λ is. grind (arith, is)
not_done (Image offset) = λ is. grind (arith, is)

some : (byte : ℕ) (text : List ℕ) → byte ∷ text ≢ []
some byte text = λ is. grind (arith, is)

pub line_is_some : (text : List ℕ) → line text ≢ []
line_is_some [] = some 10 []
line_is_some (byte ∷ text) = some byte (line text)

pub refusal_is_some : (refusal : Refusal) → refusal_line refusal ≢ []
refusal_is_some NoCommand = line_is_some (codes "2 words")
refusal_is_some (Object number fault) = line_is_some (((codes "3 object " ++ (decimal number ++ codes " ")) ++ object_word fault) ++ object_place fault)
refusal_is_some TooLong = line_is_some (codes "4 limit FileBytes 16777217 16777216")
refusal_is_some TooMuch = line_is_some (codes "4 limit BatchBytes 268435457 268435456")
refusal_is_some (Limit passed) = line_is_some (((codes "4 limit " ++ quantity_word passed.quantity) ++ spaced (decimal passed.number)) ++ spaced (decimal passed.limit))
refusal_is_some (Read name) = line_is_some (codes "5 read " ++ name.now)
refusal_is_some (ReadOf name) = line_is_some (codes "5 read " ++ name)
refusal_is_some (Write name) = line_is_some (codes "6 write " ++ name.now)
refusal_is_some Memory = line_is_some (codes "7 memory")
refusal_is_some (Resolution kind place) = line_is_some ((codes "8 resolution " ++ resolution_word kind) ++ spaced (resolution_place place))
refusal_is_some (Text at kind) = line_is_some ((codes "9 text " ++ (decimal at ++ codes " ")) ++ kind_word kind)
refusal_is_some (Jobs number) = line_is_some (codes "10 jobs " ++ decimal number)
refusal_is_some (Image offset) = line_is_some (codes "11 image " ++ decimal offset)

pub outcome_is_some : (outcome : Outcome) → outcome_line outcome ≢ []
outcome_is_some (Running output) = line_is_some (codes "running")
outcome_is_some (Ended status output) = line_is_some (codes "ended " ++ decimal status)
outcome_is_some (Trapped address output) = line_is_some (codes "trapped " ++ decimal address)

-- ---- a refusal

pub reported : (limit : ℕ) (held new : Option Contents) (command : Option Spoken) (before now status result : ℕ) (text : List ℕ) (old known : Known) → status ≢ 0 → text ≢ []
    → Lined limit command held status text → Judged limit command held new before now status text → Reports text status result old known → PutsLine limit held command result old known
reported limit held new command before now status result text old known not_0 not_none lined judged (inl (inl (is, took))) =
    inr (inl (text, not_none, subst (λ (n : ℕ). IsLine limit held command n text) (sym is) (line_is limit held new command before now status text lined judged), took))
reported limit held new command before now status result text old known not_0 not_none lined judged (inl (inr (inl (is, fault)))) =
    let at : result ≡ status = grind (arith, is, same_status status not_0) in
    inr (inr (inl ((λ zero. not_0 (grind (arith, at, zero))), text, not_none, subst (λ (n : ℕ). IsLine limit held command n text) (sym at) (line_is limit held new command before now status text lined judged), fault)))
reported limit held new command before now status result text old known not_0 not_none lined judged (inl (inr (inr lacked))) = inr (inr (inr (inr lacked)))
reported limit held new command before now status result text old known not_0 not_none lined judged (inr (inl (is, took))) =
    inr (inl (refusal_line Memory, refusal_is_some Memory, subst (λ (n : ℕ). IsLine limit held command n (refusal_line Memory)) (sym is) (memory_line limit held command), took))
reported limit held new command before now status result text old known not_0 not_none lined judged (inr (inr (inl (is, fault)))) =
    inr (inr (inl ((λ zero. grind (arith, is, zero)), refusal_line Memory, refusal_is_some Memory, subst (λ (n : ℕ). IsLine limit held command n (refusal_line Memory)) (sym is) (memory_line limit held command), fault)))
reported limit held new command before now status result text old known not_0 not_none lined judged (inr (inr (inr lacked))) = inr (inr (inr (inr lacked)))

-- ---- the text of a command that was done

pub done_lined : (limit : ℕ) (command : Option Spoken) (old : Option Contents) (text : List ℕ) → (IsQuiet command → text ≡ []) → (text ≡ [] → CanBeSilent command)
    → Lined limit command old 0 text
done_lined limit command old text quiet silent = record {
  quiet = λ _. quiet;
  silent = λ _. silent;
  words = λ is. grind (arith, is);
  object = λ is. grind (arith, is);
  over = λ is. grind (arith, is);
  read = λ is. grind (arith, is);
  write = λ is. grind (arith, is);
  memory = λ is. grind (arith, is);
  resolution = λ is. grind (arith, is);
  spelled = λ is. grind (arith, is);
  jobs = λ is. grind (arith, is);
  image = λ is. grind (arith, is);
}

pub told : (limit : ℕ) (held new : Option Contents) (command : Option Spoken) (before now result : ℕ) (text : List ℕ) (old known : Known)
    → Lined limit command held 0 text → Judged limit command held new before now 0 text → Tells text result old known → PutsLine limit held command result old known
told limit held new command before now result [] old known lined judged (is, same) =
    inl (is, line_is limit held new command before now 0 [] lined judged, same)
told limit held new command before now result (byte ∷ text) old known lined judged (inl (is, took)) =
    inr (inl (byte ∷ text, some byte text, subst (λ (n : ℕ). IsLine limit held command n (byte ∷ text)) (sym is) (line_is limit held new command before now 0 (byte ∷ text) lined judged), took))
told limit held new command before now result (byte ∷ text) old known lined judged (inr (inl (is, fault))) =
    inr (inr (inr (inl (is, byte ∷ text, some byte text, line_is limit held new command before now 0 (byte ∷ text) lined judged, fault))))
told limit held new command before now result (byte ∷ text) old known lined judged (inr (inr lacked)) = inr (inr (inr (inr lacked)))

was_put_keeps : (piece : List ℕ) (before : ℕ) (old new : Known) → Rose before old.faults → WasPut piece old new → Rose before new.faults
was_put_keeps piece before old new rose (inl took) = omega (arith, rose, took.never_falls)
was_put_keeps piece before old new rose (inr (inl failed)) = omega (arith, rose, failed.rose)
was_put_keeps piece before old new rose (inr (inr lacked)) = omega (arith, rose, lacked.faults)

fault_rose : (text : List ℕ) (old new : Known) → PutsFault text old new → Rose old.faults new.faults
fault_rose text old new fault = was_put_keeps _ old.faults fault.between new fault.failed.rose fault.line

-- it comes to 6 only where the sink failed, and there was a text
pub six_rose : (text : List ℕ) (result : ℕ) (command : Option Spoken) (old known : Known) → Tells text result old known → (IsQuiet command → text ≡ []) → result ≡ 6
    → Rose old.faults known.faults × ¬ IsQuiet command
six_rose [] result command old known (is, same) none six = grind (arith, is, six)
six_rose (byte ∷ text) result command old known (inl (is, took)) none six = grind (arith, is, six)
six_rose (byte ∷ text) result command old known (inr (inl (is, fault))) none six = (fault_rose (byte ∷ text) old known fault, λ quiet. some byte text (none quiet))
six_rose (byte ∷ text) result command old known (inr (inr (is, lacked))) none six = grind (arith, is, six)

-- ---- a status that want of memory may take the place of

pub exactly_kept : (s status result : ℕ) (cause : Type 0) → (result ≡ status) ⊎ (result ≡ 7) → s ≢ 7 → (status ≢ 5 → Exactly s status cause) → result ≢ 5
    → Exactly s result cause
exactly_kept s status result cause (inl is) not_7 exact not_5 =
    subst (λ (n : ℕ). Exactly s n cause) (sym is) (exact (λ five. not_5 (grind (arith, is, five))))
exactly_kept s status result cause (inr is) not_7 exact not_5 =
    record { only = λ same. absurd (not_7 (grind (arith, is, same))); always = λ holds. inr is }

pub fault_kept : (status result : ℕ) → (result ≡ status) ⊎ (result ≡ 7) → (status ≡ 5) ⊎ (status ≡ 7) → (result ≡ 5) ⊎ (result ≡ 7)
fault_kept status result (inl is) (inl five) = inl (grind (arith, is, five))
fault_kept status result (inl is) (inr seven) = inr (grind (arith, is, seven))
fault_kept status result (inr is) either = inr is

-- a command that was done printed no line that names a file
pub counts : (result before now : ℕ) (A B : Type 0) → (result ≡ 0) ⊎ (result ≡ 6) ⊎ (result ≡ 7) → RoseBy 0 before now → (result ≡ 6 → A × B)
    → RoseBy (lines_of result) before now ⊎ ((result ≡ 6) × A × B)
counts result before now A B (inl is) rose both = inl (subst (λ (n : ℕ). RoseBy (lines_of n) before now) (sym is) rose)
counts result before now A B (inr (inl is)) rose both = inr (is, (both is).0, (both is).1)
counts result before now A B (inr (inr is)) rose both = inl (subst (λ (n : ℕ). RoseBy (lines_of n) before now) (sym is) rose)

-- a command that was done was not refused
pub not_failed : {A : Type 0} (status : ℕ) → status ≡ 0 → (status ≡ 5) ⊎ (status ≡ 7) → A
not_failed status zero (inl is) = absurd (grind (arith, zero, is))
not_failed status zero (inr is) = absurd (grind (arith, zero, is))
