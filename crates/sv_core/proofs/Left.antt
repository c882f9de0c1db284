-- What is left of step 5 at a question, as the question and how it goes on; and how each part of step 5 goes on from another.
use Rattle.std.proofs.Common.{◌≡◌, Option, Some, None, List, drop, refl, sym, ap, ◌∙◌}
use Rattle.sv_calls.specs.declared.answers.read.LogRead.{LogRead}
use Rattle.sv_base.specs.declared.ids.LinkId.{LinkId}
use Rattle.sv_core.specs.Calling.{acts_left, asks_read, calls_all, calls_left, checks_wait, ends_call}
use Rattle.sv_core.specs.Left.{acting, acting_answered, acting_of, asking, asking_answered, asking_of, calling, calling_answered, clearing, going, going_answered, going_of, question_called, question_wanted, reading, serving, serving_answered, starting, wanting, wanting_answered}
use Rattle.sv_core.specs.Requests.{asks_clear, asks_start, clears_all, does_all}
use Rattle.sv_core.specs.Serving.{gives_more, serves_all, serves_asks, serves_left}
use Rattle.sv_core.specs.StandsFor.{At, Shows}
use Rattle.sv_core.specs.Sweeps.{Turn}
use Rattle.sv_core.specs.Sweeps.Turn.{Ask}
use Rattle.sv_core.specs.World.{World}
use Rattle.sv_core.specs.declared.machine.Machine.{Machine}
use Rattle.sv_core.specs.declared.place.Acting.{Acting}
use Rattle.sv_core.specs.declared.place.Asked.{Asked}
use Rattle.sv_core.specs.declared.place.Asking.{Asking}
use Rattle.sv_core.specs.declared.place.Calling.{Calling}
use Rattle.sv_core.specs.declared.place.Calling.TheVariants as calling_is
use Rattle.sv_core.specs.declared.place.Clearing.{Clearing}
use Rattle.sv_core.specs.declared.place.Going.{Going}
use Rattle.sv_core.specs.declared.place.Serving.{Serving}
use Rattle.sv_core.specs.declared.place.Wanting.{Wanting}
use Rattle.sv_core.specs.declared.place.Wanting.TheVariants as wanting_is
use Rattle.sv_out.specs.declared.order.Order.{Order}

-- ---- each word as its question

wanting_asks : (link : LinkId) (p : Wanting) (k : World → Turn) (w : World)
    → wanting link (Some p) k w ≡ Ask w (question_wanted p) (λ v reply. wanting_answered link p reply v k)
unfolding wanting starting clearing asks_start asks_clear
wanting_asks link (wanting_is.Start asked) k w = refl
wanting_asks link (wanting_is.Clear p) k w = refl

acting_asks : (link : LinkId) (p : Acting) (k : World → Turn) (w : World)
    → acting_of link (Some p) k w ≡ Ask w (question_wanted p.wanting) (λ v reply. acting_answered link p reply v k)
unfolding acting acting_of
acting_asks link p k w = wanting_asks link p.wanting (λ v. acts_left p.left link v k) w

calling_asks : (link : LinkId) (p : Calling) (k : World → Turn) (w : World)
    → calling link (Some p) k w ≡ Ask w (question_called p) (λ v reply. calling_answered link p reply v k)
unfolding calling reading asks_read
calling_asks link (calling_is.Act p) k w = acting_asks link p k w
calling_asks link (calling_is.Read p) k w = refl

going_asks : (link : LinkId) (p : Going) (k : World → Turn) (w : World)
    → going_of link (Some p) k w ≡ Ask w (question_called p.calling) (λ v reply. going_answered link p reply v k)
unfolding going going_of
going_asks link p k w = calling_asks link p.calling (λ v. calls_left p.left link v k) w

asking_asks : (link : LinkId) (p : Asking) (k : World → Turn) (w : World)
    → asking_of link (Some p) k w ≡ Ask w (question_called p.going.calling) (λ v reply. asking_answered link p reply v k)
unfolding asking asking_of
asking_asks link p k w = going_asks link p.going (λ v. serves_left p.left link v k) w

pub serving_asks : (p : Serving) (k : World → Turn) (w : World)
    → serving (Some p) k w ≡ Ask w (question_called p.asking.going.calling) (λ v reply. serving_answered p reply v k)
unfolding serving
serving_asks p k w = asking_asks p.link p.asking (λ v. serves_all (drop p.next p.links.items) v k) w

-- ---- nothing asked

pub starting_none : (link : LinkId) (k : World → Turn) (w : World) → starting link None k w ≡ k w
unfolding starting
starting_none link k w = refl

pub clearing_none : (link : LinkId) (k : World → Turn) (w : World) → clearing link None k w ≡ k w
unfolding clearing
clearing_none link k w = refl

pub wanting_none : (link : LinkId) (k : World → Turn) (w : World) → wanting link None k w ≡ k w
unfolding wanting
wanting_none link k w = refl

pub acting_none : (link : LinkId) (k : World → Turn) (w : World) → acting link None k w ≡ k w
unfolding acting
acting_none link k w = refl

pub acting_of_none : (link : LinkId) (k : World → Turn) (w : World) → acting_of link None k w ≡ k w
unfolding acting_of
acting_of_none link k w = refl

pub reading_none : (link : LinkId) (k : World → Turn) (w : World) → reading link None k w ≡ k w
unfolding reading
reading_none link k w = refl

pub calling_none : (link : LinkId) (k : World → Turn) (w : World) → calling link None k w ≡ k w
unfolding calling
calling_none link k w = refl

pub going_none : (link : LinkId) (k : World → Turn) (w : World) → going link None k w ≡ k w
unfolding going
going_none link k w = refl

pub going_of_none : (link : LinkId) (k : World → Turn) (w : World) → going_of link None k w ≡ k w
unfolding going_of
going_of_none link k w = refl

pub asking_none : (link : LinkId) (k : World → Turn) (w : World) → asking link None k w ≡ k w
unfolding asking
asking_none link k w = refl

pub asking_of_none : (link : LinkId) (k : World → Turn) (w : World) → asking_of link None k w ≡ k w
unfolding asking_of
asking_of_none link k w = refl

pub serving_none : (k : World → Turn) (w : World) → serving None k w ≡ k w
unfolding serving
serving_none k w = refl

-- ---- how one goes on from another

-- nothing asked so far: what comes next goes on
pub goes_after : {P : Type 0} (left : Option P → (World → Turn) → World → Turn) → ((k : World → Turn) (w : World) → left None k w ≡ k w)
    → (y z : Machine) (older : List Order) (t : Turn) (found : Option P) (f g : World → Turn) → found ≡ None
    → (at : At y older t (left found f)) → At z older (f at.world) g → At z older t g
goes_after left none y z older t found f g is at then = record {
  world = then.world;
  shows = then.shows;
  is = at.is ∙ ap (λ o. left o f at.world) is ∙ none f at.world ∙ then.is;
}

-- something asked: the rest is left
pub stays_at : {P : Type 0} (left : Option P → (World → Turn) → World → Turn) (y : Machine) (older : List Order) (t : Turn)
    (found : Option P) (p : P) (f g : World → Turn) → ((w : World) → left (Some p) f w ≡ g w) → found ≡ Some p
    → At y older t (left found f) → At y older t g
stays_at left y older t found p f g same is at = record {
  world = at.world;
  shows = at.shows;
  is = at.is ∙ ap (λ o. left o f at.world) is ∙ same at.world;
}

-- a step that asks nothing
pub made_at : (y : Machine) (older : List Order) (w : World) (f g : World → Turn) → ((v : World) → g v ≡ f v) → Shows y older w
    → At y older (f w) g
made_at y older w f g same s = record { world = w; shows = s; is = sym (same w) }

-- it asked nothing: what comes next
pub went_on : {P : Type 0} (left : Option P → (World → Turn) → World → Turn) → ((k : World → Turn) (w : World) → left None k w ≡ k w)
    → (y : Machine) (older : List Order) (t : Turn) (found : Option P) (f : World → Turn) → found ≡ None
    → At y older t (left found f) → At y older t f
went_on left none y older t found f is at = record {
  world = at.world;
  shows = at.shows;
  is = at.is ∙ ap (λ o. left o f at.world) is ∙ none f at.world;
}

-- what comes next is the same
pub same_at : (y : Machine) (older : List Order) (t : Turn) (f g : World → Turn) → ((w : World) → f w ≡ g w) → At y older t f
    → At y older t g
same_at y older t f g same at = record { world = at.world; shows = at.shows; is = at.is ∙ same at.world }

-- ---- something asked

pub starting_some : (link : LinkId) (p : Asked) (k : World → Turn) (w : World)
    → starting link (Some p) k w ≡ asks_start link p.child p.run w k
unfolding starting
starting_some link p k w = refl

pub clearing_some : (link : LinkId) (p : Clearing) (k : World → Turn) (w : World)
    → clearing link (Some p) k w ≡ asks_clear link p.file w (λ v. clears_all link (drop p.next p.files) v k)
unfolding clearing
clearing_some link p k w = refl

pub wanting_start : (link : LinkId) (p : Asked) (k : World → Turn) (w : World)
    → wanting link (Some (wanting_is.Start p)) k w ≡ starting link (Some p) k w
unfolding wanting
wanting_start link p k w = refl

pub wanting_clear : (link : LinkId) (p : Clearing) (k : World → Turn) (w : World)
    → wanting link (Some (wanting_is.Clear p)) k w ≡ clearing link (Some p) k w
unfolding wanting
wanting_clear link p k w = refl

pub acting_some : (link : LinkId) (p : Acting) (k : World → Turn) (w : World)
    → acting link (Some p) k w ≡ wanting link (Some p.wanting) (λ v. does_all p.left link v k) w
unfolding acting
acting_some link p k w = refl

pub acting_of_some : (link : LinkId) (p : Acting) (k : World → Turn) (w : World)
    → acting_of link (Some p) k w ≡ acting link (Some p) (λ v. k (checks_wait link v)) w
unfolding acting_of
acting_of_some link p k w = refl

pub acting_of_wanting : (link : LinkId) (p : Acting) (k : World → Turn) (w : World)
    → acting_of link (Some p) k w ≡ wanting link (Some p.wanting) (λ v. acts_left p.left link v k) w
unfolding acting_of acting
acting_of_wanting link p k w = refl

pub reading_some : (link : LinkId) (p : LogRead) (k : World → Turn) (w : World)
    → reading link (Some p) k w ≡ asks_read link p w k
unfolding reading
reading_some link p k w = refl

pub calling_act : (link : LinkId) (p : Acting) (k : World → Turn) (w : World)
    → calling link (Some (calling_is.Act p)) k w ≡ acting_of link (Some p) k w
unfolding calling
calling_act link p k w = refl

pub calling_read : (link : LinkId) (p : LogRead) (k : World → Turn) (w : World)
    → calling link (Some (calling_is.Read p)) k w ≡ reading link (Some p) k w
unfolding calling
calling_read link p k w = refl

pub going_some : (link : LinkId) (p : Going) (k : World → Turn) (w : World)
    → going link (Some p) k w ≡ calling link (Some p.calling) (λ v. calls_all p.left link v k) w
unfolding going
going_some link p k w = refl

pub going_of_some : (link : LinkId) (p : Going) (k : World → Turn) (w : World)
    → going_of link (Some p) k w ≡ going link (Some p) (λ v. k (ends_call link v)) w
unfolding going_of
going_of_some link p k w = refl

pub going_of_calling : (link : LinkId) (p : Going) (k : World → Turn) (w : World)
    → going_of link (Some p) k w ≡ calling link (Some p.calling) (λ v. calls_left p.left link v k) w
unfolding going_of going
going_of_calling link p k w = refl

pub asking_some : (link : LinkId) (p : Asking) (k : World → Turn) (w : World)
    → asking link (Some p) k w ≡ going_of link (Some p.going) (λ v. serves_asks p.left link v k) w
unfolding asking
asking_some link p k w = refl

pub asking_of_some : (link : LinkId) (p : Asking) (k : World → Turn) (w : World)
    → asking_of link (Some p) k w ≡ asking link (Some p) (λ v. k (gives_more link v)) w
unfolding asking_of
asking_of_some link p k w = refl

pub asking_of_going : (link : LinkId) (p : Asking) (k : World → Turn) (w : World)
    → asking_of link (Some p) k w ≡ going_of link (Some p.going) (λ v. serves_left p.left link v k) w
unfolding asking_of asking
asking_of_going link p k w = refl

pub serving_some : (p : Serving) (k : World → Turn) (w : World)
    → serving (Some p) k w ≡ asking_of p.link (Some p.asking) (λ v. serves_all (drop p.next p.links.items) v k) w
unfolding serving
serving_some p k w = refl
