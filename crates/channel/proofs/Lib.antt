pub mod Laying
pub mod Directions
pub mod Tables
