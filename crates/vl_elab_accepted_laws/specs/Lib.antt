pub mod Unrefused
pub mod Sized
pub mod Means
pub mod Right
pub mod Joined
pub mod SoundSteps
