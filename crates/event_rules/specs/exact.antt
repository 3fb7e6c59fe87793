pub mod Complete
pub mod CompleteBack
pub mod EventsExact
pub mod Sound
pub mod SoundBack
