-- Jobs that were handed to a gate, one after the other, up to the first that came back.
use Rattle.std.proofs.Common.{◌≡◌, ◌++◌, ◌∷◌, ◌∙◌, Bool, true, false, List, [], Option, None, Some, ap, append_assoc, append-nil, arith, refl, subst}
use Rattle.sv_outside.specs.Gates.{kept_more}
use Rattle.sv_outside.specs.declared.jobs.JobWord.{JobWord}
use Rattle.sv_parts.specs.Runs.JobWords.{Starts, grown}

grown_none : (kept : Option (List JobWord)) → kept ≡ grown [] kept
grown_none None = refl
grown_none (Some words) = rw (append-nil words) refl

came_back : (word : JobWord) (a : Option (List JobWord)) → kept_more word false a ≡ a
came_back word None = refl
came_back word (Some words) = refl

grown_by : (words : List JobWord) (word : JobWord) (a : Option (List JobWord)) → kept_more word true (grown words a) ≡ grown (words ++ word ∷ []) a
grown_by words word None = refl
grown_by words word (Some told) = rw (append_assoc told words (word ∷ [])) refl

handed : (words : List JobWord) (word : JobWord) (a b c : Option (List JobWord)) → b ≡ grown words a → c ≡ kept_more word true b
    → c ≡ grown (words ++ word ∷ []) a
handed words word a b c before is = is ∙ ap (λ (o : Option (List JobWord)). kept_more word true o) before ∙ grown_by words word a

first_back_so : (s o e w : JobWord) (a b : Option (List JobWord)) → b ≡ kept_more s false a → Starts (s ∷ o ∷ e ∷ w ∷ []) false a b
first_back_so s o e w a b one = record {
  count = 0;
  kept = one ∙ came_back s a ∙ grown_none a;
  whole = λ is. cc;
  short = λ is. omega arith;
}

second_back_so : (s o e w : JobWord) (a b c : Option (List JobWord)) → b ≡ kept_more s true a → c ≡ kept_more o false b
    → Starts (s ∷ o ∷ e ∷ w ∷ []) false a c
second_back_so s o e w a b c one two = record {
  count = 1;
  kept = two ∙ came_back o b ∙ handed [] s a a b (grown_none a) one;
  whole = λ is. cc;
  short = λ is. omega arith;
}

third_back_so : (s o e w : JobWord) (a b c d : Option (List JobWord)) → b ≡ kept_more s true a → c ≡ kept_more o true b → d ≡ kept_more e false c
    → Starts (s ∷ o ∷ e ∷ w ∷ []) false a d
third_back_so s o e w a b c d one two three = record {
  count = 2;
  kept = three ∙ came_back e c ∙ handed (s ∷ []) o a b c (handed [] s a a b (grown_none a) one) two;
  whole = λ is. cc;
  short = λ is. omega arith;
}

three_kept : (s o e : JobWord) (a b c d : Option (List JobWord)) → b ≡ kept_more s true a → c ≡ kept_more o true b → d ≡ kept_more e true c
    → d ≡ grown (s ∷ o ∷ e ∷ []) a
three_kept s o e a b c d one two three =
    handed (s ∷ o ∷ []) e a c d (handed (s ∷ []) o a b c (handed [] s a a b (grown_none a) one) two) three

last_handed_so : (s o e w : JobWord) (a b c d f : Option (List JobWord)) (kept : Bool) → b ≡ kept_more s true a → c ≡ kept_more o true b
    → d ≡ kept_more e true c → f ≡ kept_more w kept d → Starts (s ∷ o ∷ e ∷ w ∷ []) kept a f
last_handed_so s o e w a b c d f true one two three four = record {
  count = 4;
  kept = handed (s ∷ o ∷ e ∷ []) w a d f (three_kept s o e a b c d one two three) four;
  whole = λ is. refl;
  short = λ is. cc;
}
last_handed_so s o e w a b c d f false one two three four = record {
  count = 3;
  kept = four ∙ came_back w d ∙ three_kept s o e a b c d one two three;
  whole = λ is. cc;
  short = λ is. omega arith;
}

told_as : (word : JobWord) (a b : Option (List JobWord)) (kept is : Bool) → kept ≡ is → b ≡ kept_more word kept a → b ≡ kept_more word is a
told_as word a b kept is same told = subst (λ (k : Bool). b ≡ kept_more word k a) same told

pub first_back : (s o e w : JobWord) (a b : Option (List JobWord)) (i : Bool) → i ≡ false → b ≡ kept_more s i a
    → Starts (s ∷ o ∷ e ∷ w ∷ []) false a b
first_back s o e w a b i back one = first_back_so s o e w a b (told_as s a b i false back one)

pub second_back : (s o e w : JobWord) (a b c : Option (List JobWord)) (i j : Bool) → i ≡ true → b ≡ kept_more s i a → j ≡ false
    → c ≡ kept_more o j b → Starts (s ∷ o ∷ e ∷ w ∷ []) false a c
second_back s o e w a b c i j first one back two =
    second_back_so s o e w a b c (told_as s a b i true first one) (told_as o b c j false back two)

pub third_back : (s o e w : JobWord) (a b c d : Option (List JobWord)) (i j k : Bool) → i ≡ true → b ≡ kept_more s i a → j ≡ true
    → c ≡ kept_more o j b → k ≡ false → d ≡ kept_more e k c → Starts (s ∷ o ∷ e ∷ w ∷ []) false a d
third_back s o e w a b c d i j k first one second two back three =
    third_back_so s o e w a b c d (told_as s a b i true first one) (told_as o b c j true second two) (told_as e c d k false back three)

pub last_handed : (s o e w : JobWord) (a b c d f : Option (List JobWord)) (i j k l : Bool) → i ≡ true → b ≡ kept_more s i a → j ≡ true
    → c ≡ kept_more o j b → k ≡ true → d ≡ kept_more e k c → f ≡ kept_more w l d → Starts (s ∷ o ∷ e ∷ w ∷ []) l a f
last_handed s o e w a b c d f i j k l first one second two third three four =
    last_handed_so s o e w a b c d f l (told_as s a b i true first one) (told_as o b c j true second two) (told_as e c d k true third three) four
